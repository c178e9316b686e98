-- A part of a certificate that is judged by itself, and the rest behind it: a fault of the part is one of the whole, and where
-- the part has none, the rest decides.
use Rattle.std.proofs.Common.{◌≡◌, ℕ, zero, suc, inl, inr, Option, Some, None, sym, ◌∙◌}
use Rattle.law_sig.specs.Tests.{Pools, test_count, val}
use Rattle.law_sig.specs.declared.tree.Tree.{Tree}
use Rattle.law_sig.specs.declared.parts.Equation.{Equation}
use Rattle.law_sig.specs.declared.parts.SigParts.{SigParts}
use Rattle.law_valid.specs.declared.rule.Answer.{Answer}
use Rattle.law_valid.specs.declared.rule.Answer.TheVariants.{Yes, No, Over}
use Rattle.law_valid.specs.declared.rule.Rule.{Rule}
use Rattle.law_valid.specs.Judged.{If, Valued, Tests, AtTests}
use Rattle.law_checking.specs.Parts.{IsYes, Goes}

pub no_yes : (rule : Rule) (entry : ℕ) → No rule entry ≡ Yes → ⊥
no_yes rule entry e = cc

pub over_yes : (entry test : ℕ) (t : Tree) → Over entry test t ≡ Yes → ⊥
over_yes entry test t e = cc

pub done_goes : (rest : Answer → Type 0) (a : Answer) → Goes rest IsYes rest a
done_goes rest a good = (λ other. absurd (other good), λ same b h. h)

pub if_goes : (rest : Answer → Type 0) (P : Type 0) (fault : Answer) (short long : Answer → Type 0) (a : Answer) → (fault ≡ Yes → ⊥) → Goes rest short long a
    → Goes rest (If P fault short) (If P fault long) a
if_goes rest P fault short long a never goes (inl h) = let g = goes h.1 in (λ other. inl (h.0, g.0 other), λ same b k. inl (h.0, g.1 same b k))
if_goes rest P fault short long a never goes (inr h) = (λ other. inr h, λ same b k. absurd (never (sym h.1 ∙ same)))

pub valued_goes : (rest : Answer → Type 0) (o : Option Tree) (fault : Answer) (short long : Tree → Answer → Type 0) (a : Answer) → (fault ≡ Yes → ⊥)
    → ((v : Tree) → Goes rest (short v) (long v) a) → Goes rest (Valued o fault short) (Valued o fault long) a
valued_goes rest None fault short long a never goes h = (λ other. h, λ same b k. absurd (never (sym h ∙ same)))
valued_goes rest (Some v) fault short long a never goes h = goes v h

module _ (parts : SigParts) (pools : Pools) where
  pub tests_goes : (rule : Rule) (entry : ℕ) (q : Equation) (rest : Answer → Type 0) (n test : ℕ) (a : Answer)
      → Goes rest (Tests parts pools rule entry q IsYes n test) (Tests parts pools rule entry q rest n test) a
  tests_goes rule entry q rest zero test a = done_goes rest a
  tests_goes rule entry q rest (suc n) test a =
      valued_goes rest (val parts pools test q.left) (Over entry test q.left) (both IsYes) (both rest) a (over_yes entry test q.left) (λ v.
      valued_goes rest (val parts pools test q.right) (Over entry test q.right) (one IsYes v) (one rest v) a (over_yes entry test q.right) (λ w.
      if_goes rest (v ≡ w) (No rule entry) (Tests parts pools rule entry q IsYes n (suc test)) (Tests parts pools rule entry q rest n (suc test)) a (no_yes rule entry)
      (tests_goes rule entry q rest n (suc test) a)))
    where
      one : (Answer → Type 0) → Tree → Tree → Answer → Type 0
      one r v w = If (v ≡ w) (No rule entry) (Tests parts pools rule entry q r n (suc test))

      both : (Answer → Type 0) → Tree → Answer → Type 0
      both r v = Valued (val parts pools test q.right) (Over entry test q.right) (one r v)

  pub at_tests_goes : (rule : Rule) (entry : ℕ) (q : Equation) (rest : Answer → Type 0) (a : Answer)
      → Goes rest (AtTests parts pools rule entry q IsYes) (AtTests parts pools rule entry q rest) a
  at_tests_goes rule entry q rest a = tests_goes rule entry q rest (test_count parts pools) 0 a
