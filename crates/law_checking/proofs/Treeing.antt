-- The tree of a sort, line by line.
use Rattle.std.proofs.Common.{◌≡◌, ◌↔◌, ℕ, zero, suc, ◌+◌, ◌-◌, ◌<◌, ◌≤◌, ◌⊎◌, inl, inr, Bool, true, false, IsTrue, IfOk, Ok, Err, Result, Option, Some, None, List, [], ◌∷◌, ◌++◌, map, length, take, drop, slice_index_or, sym, refl, ap, ◌∙◌, subst, arith}
use Rattle.std.proofs.lemmas.List.{take_all}
use Rattle.law_sig.specs.Lists.{In, Each, numbered}
use Rattle.law_sig.specs.Lists.In.{here, there}
use Rattle.law_sig.specs.Trees.{joined}
use Rattle.law_sig.specs.Tests.{Pools, val}
use Rattle.law_sig.specs.declared.tree.SortId.{SortId}
use Rattle.law_sig.specs.declared.tree.Tree.{Tree}
use Rattle.law_sig.specs.declared.parts.SigParts.{SigParts}
use Rattle.law_laws.proofs.ListFacts.{in_none, in_split, in_left, in_right, in_rest, each_map, each_right, each_both, rising_both, rising_at, each_left}
use Rattle.law_cert_text.specs.declared.cert.TreeLine.{TreeLine}
use Rattle.law_cert_text.specs.declared.cert.TreeLine.TheVariants as line
use Rattle.law_valid.specs.declared.rule.Answer.{Answer}
use Rattle.law_valid.specs.declared.rule.Answer.TheVariants.{Yes, No, Over}
use Rattle.law_valid.specs.declared.rule.Rule.{Rule}
use Rattle.law_valid.specs.declared.rule.Rule.TheVariants as r
use Rattle.law_valid.specs.Splits.{AreApart}
use Rattle.law_valid.specs.Trees.{value_of, IsNumberOf, AreNumbersOf, AreRising, IsTest, IsFlatTest}
use Rattle.law_valid.specs.Judged.{If, Judging, ItemValued, ItemsValued, CutsTell}
use Rattle.law_checking.specs.Once.{AreOnce}
use Rattle.law_checking.specs.declared.part.Part.TheVariants.{Schemas, Leaves, Tests}
use Rattle.law_checking.specs.Lines.{taken, parts_of, kids_of, is_upper, upper_tests, Held, held_in, judging, judging_at, judgings}
use Rattle.law_checking.specs.Planted.{IsOfSort, AreNumbers, IsOfSchema, IsOfClass, AreGroups, group, AreSchemasOf, AreTermsOf, JudgesTree}
use Rattle.law_checking.specs.Parts.{IsYes, Goes}
use Rattle.law_checking.proofs.Goes.{no_yes, over_yes, done_goes, if_goes, valued_goes}
use Rattle.law_checking.proofs.Onces.{take_next, parted_at, reread}

-- Numbers that rise

abbrev IsBelow : ℕ → ℕ → Type 0
IsBelow n m = n < m

pub record RisingTo (ns : List ℕ) (at : ℕ) : Type 0 where
  pub rising : AreRising (take at ns)
  pub below : Each (λ m. m ≤ slice_index_or ns (at - 1) 0) (take at ns)

pub rising_first : (ns : List ℕ) → RisingTo ns 1
rising_first [] = record { rising = tt; below = tt }
rising_first (n ∷ ns) = record { rising = (tt, tt); below = (omega arith, tt) }

pub rising_next : (ns : List ℕ) (at : ℕ) → 1 ≤ at → at < length ns → slice_index_or ns (at - 1) 0 < slice_index_or ns at 0 → RisingTo ns at → RisingTo ns (at + 1)
rising_next ns at some less more to =
    let n = slice_index_or ns at 0 in
    let on : take (at + 1) ns ≡ take at ns ++ n ∷ [] = take_next ns at n less (reread ns at 0 less) in
    let back : at + 1 - 1 ≡ at = omega arith in
    record {
      rising = subst AreRising (sym on) (rising_both IsBelow (take at ns) (n ∷ []) to.rising (tt, tt)
          (each_map (λ m. m ≤ slice_index_or ns (at - 1) 0) (λ m. Each (IsBelow m) (n ∷ [])) (λ m h. (omega arith, tt)) (take at ns) to.below));
      below = subst (λ k. Each (λ m. m ≤ slice_index_or ns k 0) (take (at + 1) ns)) (sym back)
          (subst (Each (λ m. m ≤ n)) (sym on) (each_both (λ m. m ≤ n) (take at ns) (n ∷ []) (each_map (λ m. m ≤ slice_index_or ns (at - 1) 0) (λ m. m ≤ n) (λ m h. omega arith) (take at ns) to.below)
          (omega arith, tt)));
    }

in_take : (ns : List ℕ) (k at : ℕ) → k < at → k < length ns → In (slice_index_or ns k 0) (take at ns)
in_take [] k at less within = absurd (omega arith)
in_take (n ∷ ns) k zero less within = absurd (omega arith)
in_take (n ∷ ns) zero (suc at) less within = here
in_take (n ∷ ns) (suc k) (suc at) less within = there (in_take ns k at (omega arith) (omega arith))

pub not_rising : (ns : List ℕ) (at : ℕ) → 1 ≤ at → at < length ns → slice_index_or ns at 0 ≤ slice_index_or ns (at - 1) 0 → AreRising ns → ⊥
not_rising ns at some less fewer rising =
    let n = slice_index_or ns at 0 in
    let lower : slice_index_or ns (at - 1) 0 < n
    = rising_at IsBelow (take at ns) n (drop (at + 1) ns) (subst AreRising (parted_at ns at n less (reread ns at 0 less)) rising) (in_take ns (at - 1) at (omega arith) (omega arith)) in
    omega arith

pub all_rise : (ns : List ℕ) (at : ℕ) → length ns ≤ at → RisingTo ns at → AreRising ns
all_rise ns at end to = subst AreRising (take_all at ns end) to.rising

pub each_two : {A : Type 0} (P Q : A → Type 0) (xs : List A) → Each P xs → Each Q xs → Each (λ x. P x × Q x) xs
each_two P Q [] h k = tt
each_two P Q (x ∷ xs) h k = ((h.0, k.0), each_two P Q xs h.1 k.1)

pub if_ok : {T E : Type 0} (P Q : T → Type 0) (r : Result T E) → ((x : T) → P x → Q x) → IfOk r P → IfOk r Q
if_ok P Q (Ok x) f h = f x h
if_ok P Q (Err e) f h = h

-- Line by line

pub each_step : {A : Type 0} (P : A → Type 0) (xs ys : List A) (Q : Type 0) → (Each P (xs ++ ys) ↔ Q) → Each P xs → (Each P ys ↔ Q)
each_step P xs ys Q same own = (λ later. same.0 (each_both P xs ys own later), λ q. each_right P xs ys (same.1 q))

pub each_stop : {A : Type 0} (P : A → Type 0) (xs ys : List A) (Q : Type 0) → (Each P (xs ++ ys) ↔ Q) → (Each P xs → ⊥) → Q → ⊥
each_stop P xs ys Q same never q = never (each_left P xs ys (same.1 q))

-- Numbers

pub numbers_once : (ts : List Tree) (P : Tree → Type 0) (given wanted : List ℕ) → AreNumbers ts P wanted → AreOnce given wanted → AreNumbersOf ts P given
numbers_once ts P given wanted are once = record { once = once.once; exact = λ n. (λ i. (are n).0 ((once.same n).0 i), λ h. (once.same n).1 ((are n).1 h)) }

pub once_numbers : (ts : List Tree) (P : Tree → Type 0) (given wanted : List ℕ) → AreNumbers ts P wanted → AreNumbersOf ts P given → AreOnce given wanted
once_numbers ts P given wanted are own = record { once = own.once; same = λ n. (λ i. (are n).1 ((own.exact n).0 i), λ i. (own.exact n).1 ((are n).0 i)) }

pub class_numbers : (spreads lives : List Tree) (found : ℕ → Option (List ℕ)) (schemas : List ℕ) → AreGroups spreads lives found
    → AreNumbers lives (IsOfClass spreads schemas) (joined (map (λ k. group (found k)) schemas))
class_numbers spreads lives found schemas groups n = (out schemas, λ h. back schemas h.2.0 h.2.1 (h.0, h.1, h.2.2))
  where
    first : (k : ℕ) (ks : List ℕ) → IsNumberOf lives (IsOfSchema spreads k) n → IsNumberOf lives (IsOfClass spreads (k ∷ ks)) n
    first k ks h = (h.0, h.1, (k, here, h.2))

    later : (k : ℕ) (ks : List ℕ) → IsNumberOf lives (IsOfClass spreads ks) n → IsNumberOf lives (IsOfClass spreads (k ∷ ks)) n
    later k ks h = (h.0, h.1, (h.2.0, there h.2.1, h.2.2))

    out : (ks : List ℕ) → In n (joined (map (λ k. group (found k)) ks)) → IsNumberOf lives (IsOfClass spreads ks) n
    out [] i = in_none i
    out (k ∷ ks) i = by (out ks) (in_split (group (found k)) (joined (map (λ k. group (found k)) ks)) i)
      where
        by : (In n (joined (map (λ k. group (found k)) ks)) → IsNumberOf lives (IsOfClass spreads ks) n) → In n (group (found k)) ⊎ In n (joined (map (λ k. group (found k)) ks))
            → IsNumberOf lives (IsOfClass spreads (k ∷ ks)) n
        by rec (inl j) = first k ks ((groups k n).0 j)
        by rec (inr j) = later k ks (rec j)

    back : (ks : List ℕ) (k : ℕ) → In k ks → IsNumberOf lives (IsOfSchema spreads k) n → In n (joined (map (λ k. group (found k)) ks))
    back [] k i h = in_none i
    back (l ∷ ks) k i h = by (back ks k) (in_rest i)
      where
        by : (In k ks → IsNumberOf lives (IsOfSchema spreads k) n → In n (joined (map (λ k. group (found k)) ks))) → (k ≡ l) ⊎ In k ks
            → In n (joined (map (λ k. group (found k)) (l ∷ ks)))
        by rec (inl e) = in_left (joined (map (λ k. group (found k)) ks)) ((groups l n).1 (subst (λ m. IsNumberOf lives (IsOfSchema spreads m) n) e h))
        by rec (inr j) = in_right (group (found l)) (rec j h)

-- The conditions of a tree, from what is asked one by one

pub schemas_are : (parts : SigParts) (pools : Pools) (spreads : List Tree) (sort : SortId) (lines : List TreeLine) (g given w wanted t tests : List ℕ) → g ≡ given → given ≡ parts_of Schemas lines
    → w ≡ wanted → AreNumbers spreads (IsOfSort parts sort) wanted → t ≡ tests → tests ≡ upper_tests lines → AreOnce g w
    → Each (λ (held : Held). AreRising held.schemas) (held_in lines) → (found : Bool) → (IsTrue found ↔ Each (IsFlatTest parts pools) t)
    → IsTrue found ↔ AreSchemasOf parts pools spreads sort lines
schemas_are parts pools spreads sort lines g given w wanted t tests g_is given_is w_is numbers t_is tests_is once rising found same = (
  λ e. record {
    schemas = subst (AreNumbersOf spreads (IsOfSort parts sort)) (g_is ∙ given_is)
        (numbers_once spreads (IsOfSort parts sort) g w (subst (AreNumbers spreads (IsOfSort parts sort)) (sym w_is) numbers) once);
    rising = rising;
    flat = subst (Each (IsFlatTest parts pools)) (t_is ∙ tests_is) (same.0 e);
  },
  λ h. same.1 (subst (Each (IsFlatTest parts pools)) (sym (t_is ∙ tests_is)) h.flat),
)

module _ (parts : SigParts) (pools : Pools) (spreads lives : List Tree) (found : ℕ → Option (List ℕ)) (schemas : List ℕ) (rest : List TreeLine) (l leaves w wanted : List ℕ)
    (groups : AreGroups spreads lives found) (l_is : l ≡ leaves) (leaves_are : leaves ≡ parts_of Leaves (taken 1 rest)) (w_is : w ≡ wanted)
    (wanted_is : wanted ≡ joined (map (λ k. group (found k)) schemas)) where
  abbrev Here : Held
  Here = record { schemas = schemas; leaves = parts_of Leaves (taken 1 rest); tests = parts_of Tests (taken 1 rest) }

  numbers : AreNumbers lives (IsOfClass spreads schemas) w
  numbers = subst (AreNumbers lives (IsOfClass spreads schemas)) (sym (w_is ∙ wanted_is)) (class_numbers spreads lives found schemas groups)

  pub terms_once : AreTermsOf parts pools spreads lives Here → AreOnce l w
  terms_once h = once_numbers lives (IsOfClass spreads schemas) l w numbers (subst (AreNumbersOf lives (IsOfClass spreads schemas)) (sym (l_is ∙ leaves_are)) h.terms)

  pub terms_are : (t tests : List ℕ) → t ≡ tests → tests ≡ parts_of Tests (taken 1 rest) → AreOnce l w → (told : Bool) → (IsTrue told ↔ Each (IsTest parts pools) t)
      → IsTrue told ↔ Each (AreTermsOf parts pools spreads lives) (Here ∷ [])
  terms_are t tests t_is tests_are once told same = (
    λ e. (
      record {
        terms = subst (AreNumbersOf lives (IsOfClass spreads schemas)) (l_is ∙ leaves_are) (numbers_once lives (IsOfClass spreads schemas) l w numbers once);
        tests = subst (Each (IsTest parts pools)) (t_is ∙ tests_are) (same.0 e);
      },
      tt,
    ),
    λ h. same.1 (subst (Each (IsTest parts pools)) (sym (t_is ∙ tests_are)) h.0.tests),
  )

-- Splits, one after another

module _ (parts : SigParts) (pools : Pools) where
  items_goes : (rest : Answer → Type 0) (rule : Rule) (entry : ℕ) (ts : List Tree) (test : ℕ) (ns : List ℕ) (short long : Answer → Type 0) (a : Answer) → Goes rest short long a
      → Goes rest (ItemsValued parts pools rule entry ts test ns short) (ItemsValued parts pools rule entry ts test ns long) a
  items_goes rest rule entry ts test [] short long a goes = goes
  items_goes rest rule entry ts test (n ∷ ns) short long a goes = by (numbered ts n) (items_goes rest rule entry ts test ns short long a goes)
    where
      by : (o : Option Tree) → Goes rest (ItemsValued parts pools rule entry ts test ns short) (ItemsValued parts pools rule entry ts test ns long) a → Goes rest (ItemValued parts pools rule entry test o (ItemsValued parts pools rule entry ts test ns short)) (ItemValued parts pools rule entry test o (ItemsValued parts pools rule entry ts test ns long)) a
      by None later h = (λ other. h, λ same b k. absurd (no_yes rule entry (sym h ∙ same)))
      by (Some t) later h = valued_goes rest (val parts pools test t) (Over entry test t) (λ v. ItemsValued parts pools rule entry ts test ns short) (λ v. ItemsValued parts pools rule entry ts test ns long) a (over_yes entry test t) (λ v. later) h

  pub cuts_goes : (entry : ℕ) (js ks : List Judging) (rest : Answer → Type 0) (a : Answer)
      → Goes (CutsTell parts pools entry ks rest) (CutsTell parts pools entry js IsYes) (CutsTell parts pools entry (js ++ ks) rest) a
  cuts_goes entry [] ks rest a = done_goes (CutsTell parts pools entry ks rest) a
  cuts_goes entry (j ∷ js) ks rest a =
      let apart = AreApart (value_of parts pools j.terms) j.cut in
      items_goes (CutsTell parts pools entry ks rest) j.rule entry j.terms j.cut.test (joined j.cut.kids)
      (If apart (No j.rule entry) (CutsTell parts pools entry js IsYes)) (If apart (No j.rule entry) (CutsTell parts pools entry (js ++ ks) rest)) a
      (if_goes (CutsTell parts pools entry ks rest) apart (No j.rule entry) (CutsTell parts pools entry js IsYes) (CutsTell parts pools entry (js ++ ks) rest) a (no_yes j.rule entry)
      (cuts_goes entry js ks rest a))

  -- the splits of the lines from here on
  module _ (spreads lives : List Tree) (entry : ℕ) (W : Answer → Type 0) (lines : List TreeLine) (first : TreeLine) (rest : List TreeLine) (is : lines ≡ first ∷ rest)
      (from : (a : Answer) → CutsTell parts pools entry (judgings spreads lives lines) IsYes a → W a) (a : Answer)
      (found : CutsTell parts pools entry (judging_at spreads lives first rest) IsYes a) where
    back : (b : Answer) → CutsTell parts pools entry (judging_at spreads lives first rest ++ judgings spreads lives rest) IsYes b → W b
    back b h = from b (subst (λ ls. CutsTell parts pools entry (judgings spreads lives ls) IsYes b) (sym is) h)

    pub line_fails : (a ≡ Yes → ⊥) → W a
    line_fails never = back a ((cuts_goes entry (judging_at spreads lives first rest) (judgings spreads lives rest) IsYes a found).0 never)

    pub line_passes : a ≡ Yes → (b : Answer) → CutsTell parts pools entry (judgings spreads lives rest) IsYes b → W b
    line_passes good b h = back b ((cuts_goes entry (judging_at spreads lives first rest) (judgings spreads lives rest) IsYes a found).1 good b h)

  -- where no line is left, nothing is wrong
  pub splits_end : (spreads lives : List Tree) (entry : ℕ) (W : Answer → Type 0) (lines : List TreeLine) → length lines ≡ 0
      → ((a : Answer) → CutsTell parts pools entry (judgings spreads lives lines) IsYes a → W a) → W Yes
  splits_end spreads lives entry W [] none from = from Yes refl
  splits_end spreads lives entry W (first ∷ lines) none from = absurd (omega arith)

-- A split by its level

pub as_upper : (spreads lives : List Tree) (test count : ℕ) (rest : List TreeLine) (ks kids : List (List ℕ)) (upper : Bool) → upper ≡ is_upper rest → upper ≡ true → ks ≡ kids
    → kids ≡ kids_of Schemas count rest
    → record { rule = r.V8; terms = spreads; cut = record { test = test; kids = ks } } ∷ [] ≡ judging_at spreads lives (line.Split test count) rest
as_upper spreads lives test count rest ks kids upper is level ks_is kids_is =
    ap (λ (k : List (List ℕ)). record { rule = r.V8; terms = spreads; cut = record { test = test; kids = k } } ∷ []) (ks_is ∙ kids_is)
    ∙ ap (λ u. judging spreads lives test count rest u ∷ []) (sym level ∙ is)

pub as_lower : (spreads lives : List Tree) (test count : ℕ) (rest : List TreeLine) (ks kids : List (List ℕ)) (upper : Bool) → upper ≡ is_upper rest → upper ≡ false → ks ≡ kids
    → kids ≡ kids_of Leaves count rest
    → record { rule = r.V9; terms = lives; cut = record { test = test; kids = ks } } ∷ [] ≡ judging_at spreads lives (line.Split test count) rest
as_lower spreads lives test count rest ks kids upper is level ks_is kids_is =
    ap (λ (k : List (List ℕ)). record { rule = r.V9; terms = lives; cut = record { test = test; kids = k } } ∷ []) (ks_is ∙ kids_is)
    ∙ ap (λ u. judging spreads lives test count rest u ∷ []) (sym level ∙ is)

-- The answer for a tree

module _ (parts : SigParts) (pools : Pools) (spreads lives : List Tree) (entry : ℕ) (sort : SortId) (lines : List TreeLine) (schemas : AreSchemasOf parts pools spreads sort lines)
    (terms : Each (AreTermsOf parts pools spreads lives) (held_in lines)) where
  pub tree_untested : (Each (IsTest parts pools) (parts_of Tests lines) → ⊥) → JudgesTree parts pools spreads lives entry sort lines IsYes (No r.V9 entry)
  tree_untested never = inl (schemas, inl (terms, inr (never, refl)))

  pub tree_told : Each (IsTest parts pools) (parts_of Tests lines) → (a : Answer) → CutsTell parts pools entry (judgings spreads lives lines) IsYes a
      → JudgesTree parts pools spreads lives entry sort lines IsYes a
  tree_told tests a h = inl (schemas, inl (terms, inl (tests, h)))
