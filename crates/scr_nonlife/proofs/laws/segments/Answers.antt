use Rattle.scr_nonlife.proofs.SegmentBounds.{diversification-encloses, diversification-size, segment-encloses, segment-not_negative, segment-size}
use Rattle.scr_nonlife.proofs.laws.segments.Goals as goal

pub returns-clause-diversification : goal.returns-clause-diversification
returns-clause-diversification c = diversification-encloses

pub returns-clause-diversification_size : goal.returns-clause-diversification_size
returns-clause-diversification_size c = diversification-size

pub returns-clause-encloses : goal.returns-clause-encloses
returns-clause-encloses c = segment-encloses

pub returns-clause-not_negative : goal.returns-clause-not_negative
returns-clause-not_negative c = segment-not_negative

pub returns-clause-size : goal.returns-clause-size
returns-clause-size c = segment-size
