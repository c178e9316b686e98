-- Values that tell lists of numbers apart.
use Rattle.std.proofs.Common.{◌≡◌, ◌≢◌, ◌↔◌, ℕ, zero, suc, ◌⊎◌, inl, inr, Some, List, [], ◌∷◌, slice_get, sym, refl, ap, ◌∙◌, subst, append-nil, arith}
use Rattle.law_sig.specs.Lists.{In, Each}
use Rattle.law_sig.specs.Lists.In.{here, there}
use Rattle.law_sig.specs.Trees.{joined}
use Rattle.law_sig.specs.declared.tree.Tree.{Tree}
use Rattle.law_sig.specs.declared.parts.SigParts.{SigParts}
use Rattle.law_laws.proofs.BodyFacts.{some_is, none_is}
use Rattle.law_laws.proofs.ListFacts.{in_none, in_rest, of_each, each_of}
use Rattle.law_ids.specs.declared.ids.ValueId.{ValueId}
use Rattle.law_ids.specs.Values.{IsShared, tree_of}
use Rattle.law_draws.specs.Draws.{pools_by}
use Rattle.law_valid.specs.declared.rule.Answer.{Answer}
use Rattle.law_valid.specs.declared.rule.Answer.TheVariants.{Yes, No}
use Rattle.law_valid.specs.declared.rule.Rule.{Rule}
use Rattle.law_valid.specs.Splits.{AreApart}
use Rattle.law_valid.specs.Trees.{value_of}
use Rattle.law_valid.specs.Judged.{If, CutsTell}
use Rattle.law_testing.specs.Values.{Both}
use Rattle.law_testing.proofs.BothFacts.{both_at}
use Rattle.law_checking.specs.Once.{AreAlike, heads, AreTold}
use Rattle.law_checking.specs.Splitting.{Nothing, IsNumberValue}
use Rattle.law_checking.specs.Parts.{IsYes}
use Rattle.law_checking.proofs.Valuing.{Items, items_more, items_pass, all_kids_have}

-- Two values are one exactly where they are in one list

abbrev AreParted : List (List ValueId) → Type 0
AreParted vss = (i j : ℕ) (vs ws : List ValueId) (v w : ValueId) → slice_get vss i ≡ Some vs → slice_get vss j ≡ Some ws → In v vs → In w ws → (v ≡ w) ↔ (i ≡ j)

id_of : ℕ → ValueId
id_of n = record { 0 = n }

record IsHead (vss : List (List ValueId)) (h : ℕ) : Type 0 where
  pub place : ℕ
  pub list : List ValueId
  pub item : ValueId
  pub there_is : slice_get vss place ≡ Some list
  pub at : In item list
  pub is : item.0 ≡ h

head_up : (vs : List ValueId) (vss : List (List ValueId)) (h : ℕ) → IsHead vss h → IsHead (vs ∷ vss) h
head_up vs vss h f = record { place = suc f.place; list = f.list; item = f.item; there_is = f.there_is; at = f.at; is = f.is }

head_in : (vss : List (List ValueId)) (h : ℕ) → In h (heads vss) → IsHead vss h
head_in [] h i = in_none i
head_in ([] ∷ vss) h i = head_up [] vss h (head_in vss h i)
head_in ((v ∷ vs) ∷ vss) h i = by (head_in vss h) (in_rest i)
  where
    by : (In h (heads vss) → IsHead vss h) → (h ≡ v.0) ⊎ In h (heads vss) → IsHead ((v ∷ vs) ∷ vss) h
    by later (inl is) = record { place = 0; list = v ∷ vs; item = v; there_is = refl; at = here; is = sym is }
    by later (inr j) = head_up (v ∷ vs) vss h (later j)

first_told : (us : List ValueId) (vss : List (List ValueId)) → AreParted (us ∷ vss) → AreTold vss → AreTold (us ∷ vss)
unfolding id_of
first_told [] vss p later = record { alike = (λ v w i j. in_none i, later.alike); distinct = later.distinct }
first_told (u ∷ us) vss p later = record {
  alike = (λ v w i j. (p 0 0 (u ∷ us) (u ∷ us) v w refl refl i j).1 refl, later.alike);
  distinct = (
    each_of (λ h. u.0 ≢ h) (heads vss) (λ h i e.
        let f = head_in vss h i in
        let same : u ≡ f.item = ap id_of (e ∙ sym f.is) in
        let zero_is : 0 ≡ suc f.place = (p 0 (suc f.place) (u ∷ us) f.list u f.item refl f.there_is here f.at).0 same in
        omega arith),
    later.distinct,
  );
}

parted_told : (vss : List (List ValueId)) → AreParted vss → AreTold vss
parted_told [] p = record { alike = tt; distinct = tt }
parted_told (us ∷ vss) p = first_told us vss p (parted_told vss (λ i j vs ws v w x y a c.
    let q = p (suc i) (suc j) vs ws v w x y a c in
    (λ e. let h : suc i ≡ suc j = q.0 e in omega arith, λ e. q.1 (ap suc e))))

told_rest : (us : List ValueId) (vss : List (List ValueId)) → AreTold (us ∷ vss) → AreTold vss
told_rest [] vss t = record { alike = t.alike.1; distinct = t.distinct }
told_rest (u ∷ us) vss t = record { alike = t.alike.1; distinct = t.distinct.1 }

record HasHead (vss : List (List ValueId)) (ws : List ValueId) : Type 0 where
  pub item : ValueId
  pub head : In item.0 (heads vss)
  pub at : In item ws

has_head : (vss : List (List ValueId)) (j : ℕ) (ws : List ValueId) (w : ValueId) → slice_get vss j ≡ Some ws → In w ws → HasHead vss ws
has_head [] j ws w e i = none_is ws e
has_head ([] ∷ vss) zero ws w e i = in_none (subst (In w) (sym (some_is [] ws e)) i)
has_head ((x ∷ xs) ∷ vss) zero ws w e i = record { item = x; head = here; at = subst (In x) (some_is (x ∷ xs) ws e) here }
has_head ([] ∷ vss) (suc j) ws w e i = let h = has_head vss j ws w e i in record { item = h.item; head = h.head; at = h.at }
has_head ((x ∷ xs) ∷ vss) (suc j) ws w e i = let h = has_head vss j ws w e i in record { item = h.item; head = there h.head; at = h.at }

alike_at : (vss : List (List ValueId)) (j : ℕ) (ws : List ValueId) → slice_get vss j ≡ Some ws → Each AreAlike vss → AreAlike ws
alike_at [] j ws e all = none_is ws e
alike_at (us ∷ vss) zero ws e all = subst AreAlike (some_is us ws e) all.0
alike_at (us ∷ vss) (suc j) ws e all = alike_at vss j ws e all.1

first_differs : (us : List ValueId) (vss : List (List ValueId)) (v w : ValueId) (j : ℕ) (ws : List ValueId) → AreTold (us ∷ vss) → In v us → slice_get vss j ≡ Some ws → In w ws
    → v ≡ w → ⊥
first_differs [] vss v w j ws t i there_is k e = in_none i
first_differs (u ∷ us) vss v w j ws t i there_is k e =
    let h = has_head vss j ws w there_is k in
    of_each (λ n. u.0 ≢ n) h.head t.distinct.0 (ap (λ (x : ValueId). x.0) (t.alike.0 u v here i ∙ e ∙ sym (alike_at vss j ws there_is t.alike.1 h.item w h.at k)))

told_parted : (vss : List (List ValueId)) → AreTold vss → AreParted vss
told_parted [] t i j vs ws v w x y a c = none_is vs x
told_parted (us ∷ vss) t zero zero vs ws v w x y a c =
    (λ e. refl, λ e. t.alike.0 v w (subst (In v) (sym (some_is us vs x)) a) (subst (In w) (sym (some_is us ws y)) c))
told_parted (us ∷ vss) t zero (suc j) vs ws v w x y a c =
    (λ e. absurd (first_differs us vss v w j ws t (subst (In v) (sym (some_is us vs x)) a) y c e), λ e. absurd (omega arith))
told_parted (us ∷ vss) t (suc i) zero vs ws v w x y a c =
    (λ e. absurd (first_differs us vss w v i vs t (subst (In w) (sym (some_is us ws y)) c) x a (sym e)), λ e. absurd (omega arith))
told_parted (us ∷ vss) t (suc i) (suc j) vs ws v w x y a c =
    let q = told_parted vss (told_rest us vss t) i j vs ws v w x y a c in (λ e. ap suc (q.0 e), λ e. q.1 (omega arith))

-- Numbers and their values

both_back : {A B : Type 0} (R : A → B → Type 0) (xs : List A) (ys : List B) → Both R xs ys → (at : ℕ) (y : B) → slice_get ys at ≡ Some y
    → (x : A) × (slice_get xs at ≡ Some x) × R x y
both_back R [] [] both at y e = none_is y e
both_back R [] (z ∷ ys) both at y e = absurd both
both_back R (x ∷ xs) [] both at y e = absurd both
both_back R (x ∷ xs) (z ∷ ys) both zero y e = (x, refl, subst (R x) (some_is z y e) both.0)
both_back R (x ∷ xs) (z ∷ ys) both (suc at) y e = both_back R xs ys both.1 at y e

in_both : {A B : Type 0} (R : A → B → Type 0) {x : A} {xs : List A} (ys : List B) → In x xs → Both R xs ys → (y : B) × In y ys × R x y
in_both R [] here both = absurd both
in_both R (y ∷ ys) here both = (y, here, both.0)
in_both R [] (there i) both = absurd both
in_both R (y ∷ ys) (there i) both = let h = in_both R ys i both.1 in (h.0, there h.1, h.2)

both_in : {A B : Type 0} (R : A → B → Type 0) {y : B} {ys : List B} (xs : List A) → In y ys → Both R xs ys → (x : A) × In x xs × R x y
both_in R [] here both = absurd both
both_in R (x ∷ xs) here both = (x, here, both.0)
both_in R [] (there i) both = absurd both
both_in R (x ∷ xs) (there i) both = let h = both_in R xs i both.1 in (h.0, there h.1, h.2)

module _ (parts : SigParts) (rule : Rule) (entry : ℕ) (terms : List Tree) (test : ℕ) (bank : List Tree) (kids : List (List ℕ)) where
  abbrev Have : ℕ → ValueId → Type 0
  Have = IsNumberValue parts bank terms test

  abbrev Apart : Type 0
  Apart = AreApart (value_of parts (pools_by parts) terms) (record { test = test; kids = kids })

  one_value : IsShared bank → (n m : ℕ) (v w : ValueId) → Have n v → Have m w
      → (v ≡ w) ↔ (value_of parts (pools_by parts) terms test n ≡ value_of parts (pools_by parts) terms test m)
  one_value shared n m v w own other = (
    λ e. own.is ∙ ap (λ u. Some (tree_of bank u)) e ∙ sym other.is,
    λ e. shared v w own.held other.held (some_is (tree_of bank v) (tree_of bank w) (sym own.is ∙ e ∙ other.is)),
  )

  apart_told : IsShared bank → (vss : List (List ValueId)) → Both (Both Have) kids vss → Apart → AreTold vss
  apart_told shared vss both apart = parted_told vss (λ i j vs ws v w x y a c.
      let k = both_back (Both Have) kids vss both i vs x in
      let l = both_back (Both Have) kids vss both j ws y in
      let n = both_in Have k.0 a k.2 in
      let m = both_in Have l.0 c l.2 in
      let q = apart i j k.0 l.0 n.0 m.0 k.1 l.1 n.1 m.1 in
      let one = one_value shared n.0 m.0 v w n.2 m.2 in
      (λ e. q.0 (one.0 e), λ e. one.1 (q.1 e)))

  told_apart : IsShared bank → (vss : List (List ValueId)) → Both (Both Have) kids vss → AreTold vss → Apart
  told_apart shared vss both told i j ns ms n m x y a c =
      let k = both_at (Both Have) kids vss both i ns x in
      let l = both_at (Both Have) kids vss both j ms y in
      let v = in_both Have k.0 a k.2 in
      let w = in_both Have l.0 c l.2 in
      let q = told_parted vss told i j k.0 l.0 v.0 w.0 k.1 l.1 v.1 w.1 in
      let one = one_value shared n m v.0 w.0 v.2 w.2 in
      (λ e. q.0 (one.1 e), λ e. one.0 (q.1 e))

  -- The answer

  abbrev Told : Answer → Type 0
  Told = CutsTell parts (pools_by parts) entry (record { rule = rule; terms = terms; cut = record { test = test; kids = kids } } ∷ []) IsYes

  abbrev Compared : Answer → Type 0
  Compared = If Apart (No rule entry) IsYes

  pub split_fault : (a : Answer) → Items parts rule entry terms test (joined kids) Nothing a → Told a
  split_fault a fault =
      subst (λ l. Items parts rule entry terms test l Compared a) (append-nil (joined kids)) (items_more parts rule entry terms test Compared a (joined kids) [] fault)

  all_valued : (vss : List (List ValueId)) → Both (Both Have) kids vss → (a : Answer) → Compared a → Told a
  all_valued vss both a h =
      subst (λ l. Items parts rule entry terms test l Compared a) (append-nil (joined kids))
      (items_pass parts rule entry terms test Compared a (joined kids) [] (all_kids_have parts rule entry terms test bank kids vss both) h)

  pub split_tells : IsShared bank → (vss : List (List ValueId)) → Both (Both Have) kids vss → AreTold vss → Told Yes
  split_tells shared vss both told = all_valued vss both Yes (inl (told_apart shared vss both told, refl))

  pub split_fails : IsShared bank → (vss : List (List ValueId)) → Both (Both Have) kids vss → (AreTold vss → ⊥) → Told (No rule entry)
  split_fails shared vss both never = all_valued vss both (No rule entry) (inr (λ apart. never (apart_told shared vss both apart), refl))
