-- The equations of a certificate are derivable from its background and its laws.
use Rattle.std.proofs.Common.{◌≡◌, ℕ, zero, suc, ◌≤◌, ◌⊎◌, inl, inr, List, [], ◌∷◌, ◌++◌, length, sym, ap, ◌∙◌, subst, arith}
use Rattle.law_sig.specs.Lists.{In}
use Rattle.law_sig.specs.Derive.{Derivable}
use Rattle.law_sig.specs.Chains.{Replays}
use Rattle.law_sig.specs.Tests.{Pools}
use Rattle.law_sig.specs.declared.chain.Step.{Step}
use Rattle.law_sig.specs.declared.tree.Tree.{Tree}
use Rattle.law_sig.specs.declared.parts.Equation.{Equation}
use Rattle.law_sig.specs.declared.parts.SigParts.{SigParts}
use Rattle.law_laws.proofs.ListFacts.{in_none, in_left, in_right, in_split, in_rest}
use Rattle.law_laws.proofs.Derivation.{derivable_cut}
use Rattle.law_laws.proofs.Coverage.{derivable_itself}
use Rattle.law_laws.proofs.Chains.{chain_derivable}
use Rattle.law_valid.specs.declared.certificate.Entry.{Entry}
use Rattle.law_valid.specs.declared.certificate.Entry.TheVariants as e
use Rattle.law_valid.specs.Stated.{stated, equation_at, law_at, known}
use Rattle.law_valid.specs.Valid.{IsEntry}
use Rattle.law_valid.proofs.StatedFacts.{stated_by, stated_parts, before_is_less, split_again}

-- the equations that coverage derives from
abbrev pub base_of : SigParts → List Entry → List Equation
base_of parts all = parts.settings.background ++ stated law_at all

module _ (parts : SigParts) (pools : Pools) (all : List Entry)
    (each : (before : List Entry) (x : Entry) (after : List Entry) → all ≡ before ++ x ∷ after → IsEntry parts pools all before x after) where
  law_in : (before : List Entry) (x : Entry) (after : List Entry) → all ≡ before ++ x ∷ after → (q : Equation) → In q (law_at x) → In q (base_of parts all)
  law_in before x after split q at = in_right parts.settings.background
      (subst (In q) (sym (ap (stated law_at) split ∙ stated_parts law_at before (x ∷ after))) (in_right (stated law_at before) (in_left (stated law_at after) at)))

  -- lemmas by their chains, by induction on how many entries stand before
  equations_derivable : (n : ℕ) (before rest : List Entry) → length before ≤ n → all ≡ before ++ rest → (q : Equation) → In q (known parts before)
      → Derivable parts (base_of parts all) q.left q.right
  equations_derivable zero before rest few split q at = by (in_split parts.settings.background (stated equation_at before) at)
    where
      by : In q parts.settings.background ⊎ In q (stated equation_at before) → Derivable parts (base_of parts all) q.left q.right
      by (inl h) = derivable_itself parts (base_of parts all) q (in_left (stated law_at all) h)
      by (inr h) = let p = stated_by equation_at q before h in
          let less = before_is_less before p.before p.entry p.after p.split in
          absurd (omega arith)
  equations_derivable (suc n) before rest few split q at = by (equations_derivable n) (in_split parts.settings.background (stated equation_at before) at)
    where
      entry : (front : List Entry) (x : Entry) (back : List Entry) → all ≡ front ++ x ∷ back → IsEntry parts pools all front x back → In q (equation_at x)
          → ((k : Equation) → In k (known parts front) → Derivable parts (base_of parts all) k.left k.right) → Derivable parts (base_of parts all) q.left q.right
      entry front (e.Law number k) back at_all is there_is have = derivable_itself parts (base_of parts all) q (law_in front (e.Law number k) back at_all q there_is)
      entry front (e.Lemma number k steps) back at_all is there_is have = one (in_rest there_is)
        where
          one : (q ≡ k) ⊎ In q [] → Derivable parts (base_of parts all) q.left q.right
          one (inl same) = subst (λ (z : Equation). Derivable parts (base_of parts all) z.left z.right) (sym same)
              (derivable_cut parts (base_of parts all) (known parts front) have (chain_derivable parts (known parts front) is.1.chain))
          one (inr no_more) = in_none no_more
      entry front (e.Killed k steps) back at_all is there_is have = in_none there_is
      entry front (e.Moved k steps) back at_all is there_is have = in_none there_is
      entry front x back at_all is there_is have = in_none there_is

      by : ((front back : List Entry) → length front ≤ n → all ≡ front ++ back → (k : Equation) → In k (known parts front) → Derivable parts (base_of parts all) k.left k.right)
          → In q parts.settings.background ⊎ In q (stated equation_at before) → Derivable parts (base_of parts all) q.left q.right
      by shorter (inl h) = derivable_itself parts (base_of parts all) q (in_left (stated law_at all) h)
      by shorter (inr h) = let p = stated_by equation_at q before h in
          let less = before_is_less before p.before p.entry p.after p.split in
          let at_all = split_again all before rest p.before p.entry p.after split p.split in
          entry p.before p.entry (p.after ++ rest) at_all (each p.before p.entry (p.after ++ rest) at_all) p.at
          (shorter p.before (p.entry ∷ (p.after ++ rest)) (omega arith) at_all)

  -- a chain over what is known before an entry is a derivation from the background and the laws
  pub derivable_before : (before rest : List Entry) → all ≡ before ++ rest → (steps : List Step) (s t : Tree) → Replays parts (known parts before) steps s t
      → Derivable parts (base_of parts all) s t
  derivable_before before rest split steps s t chain = derivable_cut parts (base_of parts all) (known parts before)
      (equations_derivable (length before) before rest (omega arith) split) (chain_derivable parts (known parts before) chain)
