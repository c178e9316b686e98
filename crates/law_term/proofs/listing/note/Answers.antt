use Rattle.std.proofs.Common.{inr}
use Rattle.law_term.proofs.Items.{not_found}
use Rattle.law_term.proofs.listing.note.Goals as goal

pub returns-clause-noted : goal.returns-clause-noted
returns-clause-noted c = inr (record {
  fresh = not_found c.get.result c.is_some.result _ c.get.ensures.value c.is_some.ensures c.if-is_some.false;
  head = c.in_ok-note_head.ensures.noted;
  noted = c.in-Ok.ensures.entries;
  finds = c.in-Ok.ensures.updates.0;
})
