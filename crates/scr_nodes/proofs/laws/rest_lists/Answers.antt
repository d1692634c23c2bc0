use Rattle.scr_nodes.proofs.Ordered.{total-or-rest, rest-live, rest-once, rest-after}
use Rattle.scr_nodes.proofs.laws.rest_lists.Goals as goal

pub returns-clause-listed : goal.returns-clause-listed
returns-clause-listed c = λ sheet node valid live. total-or-rest sheet valid node live

pub returns-clause-live : goal.returns-clause-live
returns-clause-live c = λ sheet node valid has. rest-live sheet valid node has

pub returns-clause-once : goal.returns-clause-once
returns-clause-once c = λ sheet valid. rest-once sheet valid

pub returns-clause-after_sources : goal.returns-clause-after_sources
returns-clause-after_sources c = λ sheet k node source valid at has. rest-after sheet valid k node source at has
