use Rattle.scr_run.proofs.Leads.{book_stops, edits_stop, factors_stop, report_told}
use Rattle.scr_run.proofs.laws.outcomes.Goals as goal

pub returns : goal.returns
returns c = record {
  report = λ names content factors book edits values sheet script f v b s e w.
      report_told names content factors f book values v b edits sheet s e script w;
  factors = λ names content factors due f v. factors_stop names content factors f due v;
  book = λ names content factors book values due f v b s. book_stops names content factors f book values v b due s;
  edits = λ names content factors book edits values sheet due f v b s e w.
      edits_stop names content factors f book values v b edits sheet s e due w;
}
