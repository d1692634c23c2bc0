-- The date with the day's number.
use Rattle.scr_fields.proofs.Days.{date_found}
use Rattle.scr_fields.proofs.dates.date_of.Goals as goal

pub returns-clause-is : goal.returns-clause-is
returns-clause-is c = (date_found c.plain_date.result c.args.day.number c.plain_date.ensures c.requires).is

pub returns-clause-since : goal.returns-clause-since
returns-clause-since c = (date_found c.plain_date.result c.args.day.number c.plain_date.ensures c.requires).since

pub returns-clause-until : goal.returns-clause-until
returns-clause-until c = (date_found c.plain_date.result c.args.day.number c.plain_date.ensures c.requires).until
