-- The walk over all entries, and the trees behind it.
use Rattle.std.proofs.Common.{◌≡◌, ℕ, zero, suc, ◌+◌, ◌≤◌, Some, None, slice_get, List, [], ◌∷◌, ◌++◌, length, take, drop, refl, sym, ap, ◌∙◌, subst, arith}
use Rattle.std.proofs.lemmas.List.{length-map, take_all}
use Rattle.std.specs.List.{AllByRecursion}
use Rattle.law_sig.specs.Lists.{Each, AreDistinct}
use Rattle.law_sig.specs.declared.tree.Tree.{Tree}
use Rattle.law_sig.specs.declared.parts.SigParts.{SigParts}
use Rattle.law_laws.proofs.ListFacts.{mapped}
use Rattle.law_laws.proofs.BodyFacts.{some_is, none_is}
use Rattle.law_cert_text.specs.declared.cert.Entry.{Entry as Written}
use Rattle.law_cert_text.specs.declared.cert.SortTree.{SortTree as WrittenTree}
use Rattle.law_cert_text.specs.declared.cert.TreeLine.{TreeLine}
use Rattle.law_cert_text.specs.declared.cert.TreeLine.TheVariants as line
use Rattle.law_cert_text.specs.Certificates.{IsNode, IsTree}
use Rattle.law_draws.specs.Draws.{pools_by}
use Rattle.law_testing.specs.Values.{IsTestable}
use Rattle.law_valid.specs.declared.certificate.Entry.{Entry}
use Rattle.law_valid.specs.declared.certificate.SortTree.{SortTree}
use Rattle.law_valid.specs.declared.rule.Answer.{Answer}
use Rattle.law_valid.specs.declared.rule.Answer.TheVariants.{Yes}
use Rattle.law_valid.specs.Stated.{stated, spread_at, live_at}
use Rattle.law_valid.specs.Judged.{Entries, InTrees, entry_after, OfEntry, OfEnd, block_after}
use Rattle.law_named.specs.Named.{entry_named, entries_named, AreTreesOf}
use Rattle.law_checking.specs.Lines.{HasKid}
use Rattle.law_checking.specs.Planted.{HaveKids}
use Rattle.law_checking.specs.Parts.{IsYes}
use Rattle.law_checking.specs.Steps.{Sight, HasSeen, HasPlace, IsPassed, IsAnswerTo, IsAnswerAtEnd, SeesMore, EntriesFrom, AnswersAll, HasWalked}
use Rattle.law_checking.proofs.NameFacts.{taken, long}
use Rattle.law_checking.proofs.StepFacts.{entry_map, entry_on, end_map, end_on}

dropped : {A : Type 0} (xs : List A) (at : ℕ) (x : A) → slice_get xs at ≡ Some x → drop at xs ≡ x ∷ drop (at + 1) xs
dropped [] at x h = none_is x h
dropped (y ∷ xs) zero x h = ap (λ z. z ∷ xs) (some_is y x h)
dropped (y ∷ xs) (suc n) x h =
    let next : suc n + 1 ≡ suc (n + 1) = omega arith in
    dropped xs n x h ∙ ap (λ k. x ∷ drop k (y ∷ xs)) (sym next)

drop_end : {A : Type 0} (xs : List A) (at : ℕ) → length xs ≤ at → drop at xs ≡ []
drop_end [] zero h = refl
drop_end [] (suc n) h = refl
drop_end (y ∷ xs) zero h = absurd (omega arith)
drop_end (y ∷ xs) (suc n) h = drop_end xs n (omega arith)

-- a split of a written tree has a child

has_kid : (l : TreeLine) → IsNode l → HasKid l
has_kid (line.Split test count) node = let h = node.2 in omega arith
has_kid (line.Class numbers) node = tt
has_kid (line.Leaf number) node = tt

each_kid : (ls : List TreeLine) → AllByRecursion IsNode ls → Each HasKid ls
each_kid [] h = tt
each_kid (l ∷ ls) h = (has_kid l h.0, each_kid ls h.1)

pub have_kids : (trees : List WrittenTree) → AllByRecursion IsTree trees → Each HaveKids trees
have_kids [] h = tt
have_kids (t ∷ ts) h = (each_kid t.lines h.0.each, have_kids ts h.1)

module _ (parts : SigParts) (raws : List Written) where
  pub walked_start : (seen : Sight) → HasSeen parts [] None seen → HasWalked parts raws 0 seen
  walked_start seen has = record { block = None; has = has; on = λ trees a h. h }

  pub walked_place : (at : ℕ) (seen : Sight) → HasWalked parts raws at seen → HasPlace parts seen
  walked_place at seen w = record { before = entries_named parts (take at raws); block = w.block; has = w.has }

  pub walked_terms : (at : ℕ) (seen : Sight) → HasWalked parts raws at seen → Each (IsTestable parts) seen.spreads × Each (IsTestable parts) seen.lives × AreDistinct seen.spreads
  walked_terms at seen w = (
    subst (Each (IsTestable parts)) (sym w.has.spread) w.has.spread_testable,
    subst (Each (IsTestable parts)) (sym w.has.live) w.has.live_testable,
    subst AreDistinct (sym w.has.spread) w.has.spread_distinct,
  )

  abbrev close : List SortTree → Answer → Type 0
  close trees = InTrees parts (pools_by parts) (entries_named parts raws) (entry_after (entries_named parts raws)) [] trees

  number_is : (at : ℕ) (raw : Written) → slice_get raws at ≡ Some raw → at + 1 ≡ entry_after (entries_named parts (take at raws))
  number_is at raw there = ap (λ n. n + 1) (long raws at raw there ∙ sym (length-map (take at raws) (entry_named parts)))

  module _ (at : ℕ) (raw : Written) (there : slice_get raws at ≡ Some raw) (seen : Sight) (w : HasWalked parts raws at seen) (a : Answer)
      (answer : IsAnswerTo parts seen (at + 1) (entry_named parts raw) a) where
    of : OfEntry parts (pools_by parts) (entries_named parts (take at raws)) w.block (entry_named parts raw) IsYes a
    of = answer (entries_named parts (take at raws)) w.block w.has (number_is at raw there)

    -- what the entries behind this one say
    abbrev behind : List SortTree → Answer → Type 0
    behind trees = Entries parts (pools_by parts) (close trees) (entries_named parts (take at raws) ++ entry_named parts raw ∷ []) (block_after w.block (entry_named parts raw))
        (entries_named parts (drop (at + 1) raws))

    from_here : (trees : List SortTree) (b : Answer) → OfEntry parts (pools_by parts) (entries_named parts (take at raws)) w.block (entry_named parts raw) (behind trees) b
        → EntriesFrom parts raws trees [] None (entries_named parts raws) b
    from_here trees b h = w.on trees b (subst (λ l. EntriesFrom parts raws trees (entries_named parts (take at raws)) w.block l b) (sym (ap (entries_named parts) (dropped raws at raw there))) h)

    pub walked_fault : (lines : List WrittenTree) → (a ≡ Yes → ⊥) → AnswersAll parts raws lines a
    walked_fault lines never trees are = from_here trees a (entry_map parts (pools_by parts) IsYes (behind trees) (entries_named parts (take at raws)) w.block (entry_named parts raw) a (λ y. absurd (never y)) of)

    pub walked_passed : a ≡ Yes → IsPassed parts seen (entry_named parts raw)
    walked_passed good = record {
      before = entries_named parts (take at raws);
      block = w.block;
      has = w.has;
      fine = subst (OfEntry parts (pools_by parts) (entries_named parts (take at raws)) w.block (entry_named parts raw) IsYes) good of;
    }

    next_before : entries_named parts (take at raws) ++ entry_named parts raw ∷ [] ≡ entries_named parts (take (at + 1) raws)
    next_before = sym (ap (entries_named parts) (taken raws at raw there) ∙ mapped (entry_named parts) (take at raws) [] raw)

    pub walked_on : a ≡ Yes → (new : Sight) → SeesMore parts seen (entry_named parts raw) new → HasWalked parts raws (at + 1) new
    walked_on good new more =
        let fine = subst (OfEntry parts (pools_by parts) (entries_named parts (take at raws)) w.block (entry_named parts raw) IsYes) good of in record {
          block = block_after w.block (entry_named parts raw);
          has = subst (λ l. HasSeen parts l (block_after w.block (entry_named parts raw)) new) next_before (more (entries_named parts (take at raws)) w.block w.has fine);
          on = λ trees b h. from_here trees b (entry_on parts (pools_by parts) IsYes (behind trees) (entries_named parts (take at raws)) w.block (entry_named parts raw) b
              (λ y. subst (λ l. EntriesFrom parts raws trees l (block_after w.block (entry_named parts raw)) (entries_named parts (drop (at + 1) raws)) b) (sym next_before) h) fine);
        }

  -- What judging the trees says, whichever entries stated these schemas and terms
  abbrev pub AnswersTrees : List Tree → List Tree → List WrittenTree → ℕ → Answer → Type 0
  AnswersTrees spreads lives lines number b = (all : List Entry) (typed : List SortTree) → stated spread_at all ≡ spreads → stated live_at all ≡ lives
      → AreTreesOf parts lines typed → InTrees parts (pools_by parts) all number [] typed b

  module _ (at : ℕ) (past : length raws ≤ at) (seen : Sight) (w : HasWalked parts raws at seen) (number : ℕ) (numbered : number ≡ length raws + 1) (a : Answer)
      (answer : IsAnswerAtEnd parts seen number a) where
    whole : entries_named parts (take at raws) ≡ entries_named parts raws
    whole = ap (entries_named parts) (take_all at raws past)

    number_after : number ≡ entry_after (entries_named parts raws)
    number_after = numbered ∙ ap (λ n. n + 1) (sym (length-map raws (entry_named parts)))

    has : HasSeen parts (entries_named parts raws) w.block seen
    has = subst (λ l. HasSeen parts l w.block seen) whole w.has

    to_all : (trees : List SortTree) (b : Answer) → EntriesFrom parts raws trees (entries_named parts raws) w.block [] b → EntriesFrom parts raws trees [] None (entries_named parts raws) b
    to_all trees b h = w.on trees b (subst (λ l. EntriesFrom parts raws trees l w.block (entries_named parts (drop at raws)) b) (sym whole)
        (subst (λ l. EntriesFrom parts raws trees (entries_named parts raws) w.block l b) (sym (ap (entries_named parts) (drop_end raws at past))) h))

    pub end_fault : (lines : List WrittenTree) → (a ≡ Yes → ⊥) → AnswersAll parts raws lines a
    end_fault lines never trees are = to_all trees a (end_map parts (pools_by parts) IsYes (close trees) (entries_named parts raws) w.block a (λ y. absurd (never y))
        (answer (entries_named parts raws) w.block has number_after))

    pub end_trees : (lines : List WrittenTree) → a ≡ Yes → (b : Answer) → AnswersTrees seen.spreads seen.lives lines number b → AnswersAll parts raws lines b
    end_trees lines good b told trees are = to_all trees b (end_on parts (pools_by parts) IsYes (close trees) (entries_named parts raws) w.block b
        (λ y. subst (λ n. InTrees parts (pools_by parts) (entries_named parts raws) n [] trees b) number_after
        (told (entries_named parts raws) trees (sym has.spread) (sym has.live) are))
        (subst (OfEnd parts (entries_named parts raws) w.block IsYes) good (answer (entries_named parts raws) w.block has number_after)))
