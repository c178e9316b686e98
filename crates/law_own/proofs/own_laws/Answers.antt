-- Each law is proved by a lemma.
use Rattle.law_own.proofs.OwnTests.{radices_are_wide, own_is, own_tells, own_flat, own_decides, first_own}
use Rattle.law_own.proofs.NextKept.{next_kept, next_is}
use Rattle.law_own.proofs.Standing.{first_within, second_within}
use Rattle.law_sig.specs.Tests.{radices}
use Rattle.law_own.specs.Own.{by_number}
use Rattle.law_own.proofs.own_laws.Goals as goal

pub returns : goal.returns
returns c = record {
  are = own_is;
  tell = λ parts pools has vars t variables inside test. own_tells parts has vars pools test t variables inside;
  flat = own_flat;
  decide = λ parts pools has vars s t s_told t_told. own_decides parts has vars pools s t s_told t_told;
  first = λ parts pools has vars s t s_told t_told. first_own parts has vars pools s t s_told t_told;
  next = λ parts has vars test own. (
    next_kept (by_number parts vars) (radices parts) test,
    next_is (by_number parts vars) (radices parts) test (radices_are_wide parts has) own,
  );
  both = λ s t. (first_within s t, second_within s t);
}
