-- What is found of the sorts that have a value, look by look, and that in the end it is all.
use Rattle.std.proofs.Common.{rules, ◌≡◌, ℕ, zero, suc, ◌+◌, ◌-◌, ◌<◌, ◌≤◌, List, [], ◌∷◌, ◌++◌, length, drop, Bool, true, false, ◌&&◌, ◌||◌, not, nat_lt, length-append, slice_get, slice_set, slice_index_or, Some, None, if◌then◌else◌, refl, sym, ap, ap₂, subst, ◌∙◌, arith, ◌⊎◌, inl, inr, true≢false}
use Rattle.std.specs.List.{list_all, list_any}
use Rattle.std.specs.Prelude.{Vec, vec_items}
use Rattle.std.proofs.lemmas.Option.{slice_get_within}
use Rattle.std.proofs.lemmas.List.{length-set, get_or-set_same, get_or-set_other, drop-append-le}
use Rattle.law_sig.specs.Lists.{In}
use Rattle.law_sig.specs.Lists.In.{here, there}
use Rattle.law_sig.specs.Signature.{result_of}
use Rattle.law_sig.specs.WellFormed.{makes_from}
use Rattle.law_sig.specs.Trees.{same_sort}
use Rattle.law_sig.specs.declared.tree.SortId.{SortId}
use Rattle.law_sig.specs.declared.parts.Con.{Con}
use Rattle.law_sig.specs.declared.parts.Sym.{Sym}
use Rattle.law_sig.specs.declared.parts.Sym.TheVariants as symbol
use Rattle.law_laws.proofs.ListFacts.{in_left, in_none, in_rest, in_right, in_split}
use Rattle.law_laws.proofs.BodyFacts.{none_is, some_is}
use Rattle.law_laws.proofs.Sorts.{both_true, same_sort_is, same_sort_itself}
use Rattle.law_typing.specs.Declarations.{has_value, is_low}
use Rattle.law_typing.specs.declared.whole.Whole.{Whole}
use Rattle.law_typing.proofs.HeightSound.{any_found, any_here}
use Rattle.law_typing.proofs.LowFacts.{below, low_next, unknown_low}
use Rattle.law_typing.proofs.TermFacts.{drop_some}
use Rattle.law_faultless.proofs.HeightComplete.{low_has_value}
use Rattle.law_types.specs.Heights.{AreLow}
use Rattle.law_types.specs.Valued.{AreLeft, AreTakers, IsFound, Looked, Takes, Waits, gives, is_known}

-- Known sorts

declared : (n sort : ℕ) → (sort < n) ⊎ (n ≤ sort)
declared n sort = grind arith

known_in : (has : List Bool) (s : SortId) → s.0 < length has → is_known has s ≡ slice_index_or has s.0 false
known_in has s h = ap (λ b. if b then slice_index_or has s.0 false else true) (below s.0 (length has) h)

known_out : (has : List Bool) (s : SortId) → length has ≤ s.0 → is_known has s ≡ true
known_out has s h = ap (λ b. if b then slice_index_or has s.0 false else true) beyond
  where
    beyond : nat_lt s.0 (length has) ≡ false
    beyond = search rules

differ : (a c : ℕ) → (a ≡ c) ⊎ (a ≡ c → ⊥)
differ a c = by (cases a c)
  where
    cases : (a c : ℕ) → (a ≡ c) ⊎ ((a < c) ⊎ (c < a))
    cases a c = grind arith

    by : (a ≡ c) ⊎ ((a < c) ⊎ (c < a)) → (a ≡ c) ⊎ (a ≡ c → ⊥)
    by (inl e) = inl e
    by (inr (inl l)) = inr (λ e. omega arith)
    by (inr (inr l)) = inr (λ e. omega arith)

-- a mark at a place of the table
mark_same : (has : List Bool) (m : ℕ) (s : SortId) → m < length has → s.0 ≡ m → is_known (slice_set has m true) s ≡ true
mark_same has m s h e =
    let inside : s.0 < length (slice_set has m true) = subst (λ n. n < length (slice_set has m true)) (sym e) (subst (λ n. m < n) (sym (length-set has m true)) h) in
    known_in (slice_set has m true) s inside ∙ ap (λ i. slice_index_or (slice_set has m true) i false) e ∙ get_or-set_same has m true false h

mark_other : (has : List Bool) (m : ℕ) (s : SortId) → (s.0 ≡ m → ⊥) → is_known (slice_set has m true) s ≡ is_known has s
mark_other has m s n =
    ap (λ l. if nat_lt s.0 l then slice_index_or (slice_set has m true) s.0 false else true) (length-set has m true)
    ∙ ap (λ v. if nat_lt s.0 (length has) then v else true) (get_or-set_other has m s.0 true false n)

known_more : (has : List Bool) (m : ℕ) (s : SortId) → is_known has s ≡ true → is_known (slice_set has m true) s ≡ true
known_more has m s e = by (differ s.0 m) (declared (length has) s.0)
  where
    by : (s.0 ≡ m) ⊎ (s.0 ≡ m → ⊥) → (s.0 < length has) ⊎ (length has ≤ s.0) → is_known (slice_set has m true) s ≡ true
    by (inl q) (inl h) = mark_same has m s (subst (λ n. n < length has) q h) q
    by (inl q) (inr h) = known_out (slice_set has m true) s (subst (λ n. n ≤ s.0) (sym (length-set has m true)) h)
    by (inr n) h = mark_other has m s n ∙ e

not_known : (has : List Bool) (s : SortId) → not (is_known has s) ≡ true → is_known has s ≡ false
not_known has s e = flip (is_known has s) e
  where
    flip : (b : Bool) → not b ≡ true → b ≡ false
    flip true e = absurd (true≢false (sym e))
    flip false e = refl

inside : (has : List Bool) (s : SortId) → is_known has s ≡ false → s.0 < length has
inside has s e = which (declared (length has) s.0)
  where
    which : (s.0 < length has) ⊎ (length has ≤ s.0) → s.0 < length has
    which (inl h) = h
    which (inr h) = absurd (true≢false (sym (known_out has s h) ∙ e))

-- A look at a symbol

abbrev made : Sym → ℕ
made s = (result_of s).0

-- what the symbol gives is known behind the look
pub given : (s : Sym) (old new : List Bool) (queue more : List ℕ) → Looked (gives old s) (made s) old new queue more → gives new s ≡ false
given (symbol.Fun fun) old new queue more looked = refl
given (symbol.Con con) old new queue more looked = by (gives old (symbol.Con con)) refl looked
  where
    last : (a : Bool) → (a && false) ≡ false
    last true = refl
    last false = refl

    by : (b : Bool) → gives old (symbol.Con con) ≡ b → Looked b con.sort.0 old new queue more → gives new (symbol.Con con) ≡ false
    by false g l = ap (λ h. gives h (symbol.Con con)) l.0 ∙ g
    by true g l =
        let unknown = not_known old con.sort (both_true (list_all (is_known old) con.args) (not (is_known old con.sort)) g).1 in
        let e : is_known new con.sort ≡ true = ap (λ h. is_known h con.sort) l.0 ∙ mark_same old con.sort.0 con.sort (inside old con.sort unknown) refl in
        ap (λ b. list_all (is_known new) con.args && not b) e ∙ last (list_all (is_known new) con.args)

-- what is found still holds
all_low : (text : Whole) (has : List Bool) (queue : List ℕ) → IsFound text has queue → (args : List SortId) → list_all (is_known has) args ≡ true
    → list_all (is_low text (length text.sorts + 1)) args ≡ true
all_low text has queue found [] e = refl
all_low text has queue found (a ∷ args) e =
    let p = both_true (is_known has a) (list_all (is_known has) args) e in
    ap₂ ◌&&◌ (by (declared (length text.sorts) a.0) p.0) (all_low text has queue found args p.1)
  where
    by : (a.0 < length text.sorts) ⊎ (length text.sorts ≤ a.0) → is_known has a ≡ true → is_low text (length text.sorts + 1) a ≡ true
    by (inl h) k = found.valued a h (sym (known_in has a (subst (λ n. a.0 < n) (sym found.one_each) h)) ∙ k)
    by (inr h) k = sym (unknown_low text (length text.sorts + 1) a h) ∙ below 0 (length text.sorts + 1) (omega arith)

same_number : (s u : SortId) → s.0 ≡ u.0 → s ≡ u
same_number s u e = ap (λ n. record { 0 = n }) e

con_valued : (text : Whole) (has : List Bool) (queue : List ℕ) → IsFound text has queue → (number : ℕ) (con : Con) → slice_get text.symbols number ≡ Some (symbol.Con con)
    → list_all (is_known has) con.args ≡ true → con.sort.0 < length text.sorts → has_value text con.sort ≡ true
con_valued text has queue found number con at known within =
    low_has_value text ((length text.sorts + 1) + 1) con.sort within
    (low_next text (length text.sorts + 1) con.sort within
    ∙ any_here (makes_from (is_low text (length text.sorts + 1)) con.sort) text.symbols number (symbol.Con con) at
    (ap₂ ◌&&◌ (same_sort_itself con.sort) (all_low text has queue found con.args known)))

in_one : {A : Type 0} {x y : A} → In x (y ∷ []) → x ≡ y
in_one {A} {x} {y} at = by (in_rest at)
  where
    by : (x ≡ y) ⊎ In x [] → x ≡ y
    by (inl e) = e
    by (inr more) = in_none more

pub holds_on : (text : Whole) (number : ℕ) (s : Sym) (old new : List Bool) (queue more : List ℕ) → IsFound text old queue → slice_get text.symbols number ≡ Some s
    → Looked (gives old s) (made s) old new queue more → IsFound text new more
holds_on text number s old new queue more found at looked = by s at (gives old s) refl looked
  where
    same : (new ≡ old) × (more ≡ queue) → IsFound text new more
    same e = subst (λ h. IsFound text h more) (sym e.0) (subst (IsFound text old) (sym e.1) found)

    by : (s : Sym) → slice_get text.symbols number ≡ Some s → (b : Bool) → gives old s ≡ b → Looked b (made s) old new queue more → IsFound text new more
    by s at false g l = same l
    by (symbol.Fun fun) at true g l = absurd (true≢false (sym g))
    by (symbol.Con con) at true g l =
        let p = both_true (list_all (is_known old) con.args) (not (is_known old con.sort)) g in
        let within : con.sort.0 < length text.sorts = subst (λ n. con.sort.0 < n) found.one_each (inside old con.sort (not_known old con.sort p.1)) in
        let value = con_valued text old queue found number con at p.0 within in
        subst (λ h. IsFound text h more) (sym l.0) (subst (IsFound text (slice_set old con.sort.0 true)) (sym l.1) (record {
          one_each = length-set old con.sort.0 true ∙ found.one_each;
          valued = λ sort h e. one sort h e value (differ sort.0 con.sort.0);
          within = λ sort in_it. which sort (in_split queue (con.sort.0 ∷ []) in_it) within;
        }))
      where
        one : (sort : SortId) → sort.0 < length text.sorts → slice_index_or (slice_set old con.sort.0 true) sort.0 false ≡ true → has_value text con.sort ≡ true
            → (sort.0 ≡ con.sort.0) ⊎ (sort.0 ≡ con.sort.0 → ⊥) → has_value text sort ≡ true
        one sort h e value (inl q) = ap (has_value text) (same_number sort con.sort q) ∙ value
        one sort h e value (inr n) = found.valued sort h (sym (get_or-set_other old con.sort.0 sort.0 true false n) ∙ e)

        which : (sort : ℕ) → In sort queue ⊎ In sort (con.sort.0 ∷ []) → con.sort.0 < length text.sorts → sort < length text.sorts
        which sort (inl a) h = found.within sort a
        which sort (inr a) h = subst (λ n. n < length text.sorts) (sym (in_one a)) h

-- What is left to look at

-- a symbol that a mark lets give its sort a value takes a value of the sort that was marked
newly_known : (old : List Bool) (m : ℕ) (args : List SortId) → list_all (is_known (slice_set old m true)) args ≡ true → list_all (is_known old) args ≡ false
    → (arg : SortId) × In arg args × (arg.0 ≡ m)
newly_known old m [] e n = absurd (true≢false n)
newly_known old m (a ∷ args) e n =
    let p = both_true (is_known (slice_set old m true) a) (list_all (is_known (slice_set old m true)) args) e in
    by (differ a.0 m) (is_known old a) refl p.0 (newly_known old m args p.1) n
  where
    by : (a.0 ≡ m) ⊎ (a.0 ≡ m → ⊥) → (b : Bool) → is_known old a ≡ b → is_known (slice_set old m true) a ≡ true
        → (list_all (is_known old) args ≡ false → (arg : SortId) × In arg args × (arg.0 ≡ m)) → (is_known old a && list_all (is_known old) args) ≡ false
        → (arg : SortId) × In arg (a ∷ args) × (arg.0 ≡ m)
    by (inl q) b k here_known rest n = (a, here, q)
    by (inr d) false k here_known rest n = absurd (true≢false (sym here_known ∙ mark_other old m a d ∙ k))
    by (inr d) true k here_known rest n = let r = rest (sym (ap (λ b. b && list_all (is_known old) args) k) ∙ n) in (r.0, there r.1, r.2)

newly_gives : (old : List Bool) (m : ℕ) (s : Sym) → gives (slice_set old m true) s ≡ true → gives old s ≡ false → Takes m s
newly_gives old m (symbol.Fun fun) g n = absurd (true≢false (sym g))
newly_gives old m (symbol.Con con) g n =
    let p = both_true (list_all (is_known (slice_set old m true)) con.args) (not (is_known (slice_set old m true) con.sort)) g in
    newly_known old m con.args p.0 (but (is_known old con.sort) refl (not_known (slice_set old m true) con.sort p.1) n)
  where
    plain : (b : Bool) → (b && true) ≡ b
    plain true = refl
    plain false = refl

    but : (b : Bool) → is_known old con.sort ≡ b → is_known (slice_set old m true) con.sort ≡ false → (list_all (is_known old) con.args && not (is_known old con.sort)) ≡ false
        → list_all (is_known old) con.args ≡ false
    but true k u n = absurd (true≢false (sym (known_more old m con.sort k) ∙ u))
    but false k u n = sym (plain (list_all (is_known old) con.args)) ∙ sym (ap (λ b. list_all (is_known old) con.args && not b) k) ∙ n

pub left_on : (text : Whole) (Otherwise : ℕ → Type 0) (from : ℕ) (s : Sym) (old new : List Bool) (queue more : List ℕ) → from ≤ length queue
    → AreLeft text old Otherwise (drop from queue) → Looked (gives old s) (made s) old new queue more → AreLeft text new Otherwise (drop from more)
left_on text Otherwise from s old new queue more inside left looked = by (gives old s) looked
  where
    by : (b : Bool) → Looked b (made s) old new queue more → AreLeft text new Otherwise (drop from more)
    by false l = subst (λ h. AreLeft text h Otherwise (drop from more)) (sym l.0) (subst (λ q. AreLeft text old Otherwise (drop from q)) (sym l.1) left)
    by true l = subst (λ h. AreLeft text h Otherwise (drop from more)) (sym l.0) (subst (AreLeft text (slice_set old (made s) true) Otherwise) (sym (ap (drop from) l.1 ∙ drop-append-le from queue (made s ∷ []) inside)) here_left)
      where
        further : (other : Sym) → Waits (drop from queue) other → Waits (drop from queue ++ made s ∷ []) other
        further other w = (w.0, in_left (made s ∷ []) w.1, w.2)

        which : (number : ℕ) (other : Sym) → slice_get text.symbols number ≡ Some other → gives (slice_set old (made s) true) other ≡ true → (b : Bool) → gives old other ≡ b
            → Otherwise number ⊎ Waits (drop from queue ++ made s ∷ []) other
        which number other at g true was = more_left (left number other at was)
          where
            more_left : Otherwise number ⊎ Waits (drop from queue) other → Otherwise number ⊎ Waits (drop from queue ++ made s ∷ []) other
            more_left (inl o) = inl o
            more_left (inr w) = inr (further other w)
        which number other at g false was = inr (made s, in_right (drop from queue) here, newly_gives old (made s) other g was)

        here_left : AreLeft text (slice_set old (made s) true) Otherwise (drop from queue ++ made s ∷ [])
        here_left number other at g = which number other at g (gives old other) refl

-- In the end

none_dropped : {A : Type 0} (xs : List A) (n : ℕ) → length xs ≤ n → drop n xs ≡ []
none_dropped [] zero h = refl
none_dropped [] (suc n) h = refl
none_dropped (x ∷ xs) zero h = absurd (omega arith)
none_dropped (x ∷ xs) (suc n) h = none_dropped xs n (omega arith)

-- where nothing is left to look at, all is found
complete : (text : Whole) (has : List Bool) → length has ≡ length text.sorts → ((number : ℕ) (s : Sym) → slice_get text.symbols number ≡ Some s → gives has s ≡ true → ⊥)
    → (height : ℕ) (sort : SortId) → is_low text height sort ≡ true → is_known has sort ≡ true
unfolding is_low
complete text has one closed zero sort e = absurd (true≢false (sym e))
complete text has one closed (suc n) sort e = by (declared (length text.sorts) sort.0) (complete text has one closed n)
  where
    each : ((a : SortId) → is_low text n a ≡ true → is_known has a ≡ true) → (args : List SortId) → list_all (is_low text n) args ≡ true → list_all (is_known has) args ≡ true
    each known [] e = refl
    each known (a ∷ args) e = let p = both_true (is_low text n a) (list_all (is_low text n) args) e in ap₂ ◌&&◌ (known a p.0) (each known args p.1)

    from : ((a : SortId) → is_low text n a ≡ true → is_known has a ≡ true) → (number : ℕ) (s : Sym) → slice_get text.symbols number ≡ Some s → makes_from (is_low text n) sort s ≡ true
        → is_known has sort ≡ true
    from known number (symbol.Fun fun) is m = absurd (true≢false (sym m))
    from known number (symbol.Con con) is m =
        let p = both_true (same_sort con.sort sort) (list_all (is_low text n) con.args) m in
        ap (is_known has) (sym (same_sort_is con.sort sort p.0)) ∙ its (is_known has con.sort) refl (each known con.args p.1)
      where
        its : (b : Bool) → is_known has con.sort ≡ b → list_all (is_known has) con.args ≡ true → is_known has con.sort ≡ true
        its true k all = k
        its false k all = absurd (closed number (symbol.Con con) is (ap₂ ◌&&◌ all (ap not k)))

    by : (sort.0 < length text.sorts) ⊎ (length text.sorts ≤ sort.0) → ((a : SortId) → is_low text n a ≡ true → is_known has a ≡ true) → is_known has sort ≡ true
    by (inr h) known = known_out has sort (subst (λ k. k ≤ sort.0) (sym one) h)
    by (inl h) known =
        let some : list_any (makes_from (is_low text n) sort) text.symbols ≡ true =
        sym (ap (λ b. not b || list_any (makes_from (is_low text n) sort) text.symbols) (below sort.0 (length text.sorts) h)) ∙ e in
        let f = any_found (makes_from (is_low text n) sort) text.symbols some in from known f.0 f.1 f.2 f.3

pub all_found : (text : Whole) (has : List Bool) (queue : List ℕ) (at : ℕ) → IsFound text has queue → AreLeft text has (λ number. ⊥) (drop at queue) → length queue ≤ at
    → AreLow text (length text.sorts + 1) has
all_found text has queue at found left over = record {
  one_each = found.one_each;
  each = λ sort h. same sort h (slice_index_or has sort.0 false) refl (has_value text sort) refl;
}
  where
    closed : (number : ℕ) (s : Sym) → slice_get text.symbols number ≡ Some s → gives has s ≡ true → ⊥
    closed number s is g = by (left number s is g)
      where
        by : ⊥ ⊎ Waits (drop at queue) s → ⊥
        by (inl never) = never
        by (inr w) = in_none (subst (In w.0) (none_dropped queue at over) w.1)

    same : (sort : SortId) → sort.0 < length text.sorts → (b : Bool) → slice_index_or has sort.0 false ≡ b → (c : Bool) → has_value text sort ≡ c
        → slice_index_or has sort.0 false ≡ is_low text (length text.sorts + 1) sort
    same sort h true k c v = k ∙ sym (found.valued sort h k)
    same sort h false k false v = k ∙ sym v
    same sort h false k true v =
        absurd (true≢false (sym (complete text has found.one_each closed (length text.sorts + 1) sort v) ∙ known_in has sort (subst (λ n. sort.0 < n) (sym found.one_each) h) ∙ k))

-- Steps of the loops

-- what is otherwise left, said in another way
left_as : (text : Whole) (has : List Bool) (P Q : ℕ → Type 0) (queue : List ℕ)
    → ((number : ℕ) (s : Sym) → slice_get text.symbols number ≡ Some s → gives has s ≡ true → P number → Q number) → AreLeft text has P queue → AreLeft text has Q queue
left_as text has P Q queue f left number s at g = by (left number s at g)
  where
    by : P number ⊎ Waits queue s → Q number ⊎ Waits queue s
    by (inl p) = inl (f number s at g p)
    by (inr w) = inr w

pub starts_left : (text : Whole) (has : List Bool) (queue : List ℕ) → AreLeft text has (λ number. 0 ≤ number) queue
starts_left text has queue number s at g = inl (omega arith)

-- at the symbol that was looked at
same_symbol : (text : Whole) (number : ℕ) (s other : Sym) → slice_get text.symbols number ≡ Some s → slice_get text.symbols number ≡ Some other → s ≡ other
same_symbol text number s other a c = some_is s other (sym a ∙ c)

pub next_symbol : (text : Whole) (at : ℕ) (s : Sym) (old new : List Bool) (queue more : List ℕ) → slice_get text.symbols at ≡ Some s → AreLeft text old (λ number. at ≤ number) queue
    → Looked (gives old s) (made s) old new queue more → AreLeft text new (λ number. at + 1 ≤ number) more
next_symbol text at s old new queue more is left looked =
    left_as text new (λ number. at ≤ number) (λ number. at + 1 ≤ number) more step (left_on text (λ number. at ≤ number) 0 s old new queue more (omega arith) left looked)
  where
    beyond : (number : ℕ) → at ≤ number → (at ≡ number) ⊎ (at + 1 ≤ number)
    beyond number h = grind arith

    step : (number : ℕ) (other : Sym) → slice_get text.symbols number ≡ Some other → gives new other ≡ true → at ≤ number → at + 1 ≤ number
    step number other found g h = by (beyond number h)
      where
        by : (at ≡ number) ⊎ (at + 1 ≤ number) → at + 1 ≤ number
        by (inl e) =
            let same = same_symbol text number s other (subst (λ n. slice_get text.symbols n ≡ Some s) e is) found in
            absurd (true≢false (sym (ap (gives new) same ∙ g) ∙ given s old new queue more looked))
        by (inr l) = l

pub all_looked : (text : Whole) (has : List Bool) (queue : List ℕ) (at : ℕ) → length text.symbols ≤ at → AreLeft text has (λ number. at ≤ number) queue → AreLeft text has (λ number. ⊥) queue
all_looked text has queue at over = left_as text has (λ number. at ≤ number) (λ number. ⊥) queue
    (λ number s found g h. let within = slice_get_within text.symbols number s found in absurd (omega arith))

-- one more number of a row
dropped_row : (row : List ℕ) (i number n : ℕ) → slice_get row i ≡ Some number → In n (drop i row) → (n ≡ number) ⊎ In n (drop (i + 1) row)
dropped_row row i number n is at =
    let next : suc i ≡ i + 1 = omega arith in
    subst (λ k. (n ≡ number) ⊎ In n (drop k row)) next (in_rest (subst (In n) (drop_some row i number is) at))

pub next_taker : (text : Whole) (row : List ℕ) (i number from : ℕ) (s : Sym) (old new : List Bool) (queue more : List ℕ) → slice_get row i ≡ Some number → slice_get text.symbols number ≡ Some s
    → from ≤ length queue → AreLeft text old (λ n. In n (drop i row)) (drop from queue) → Looked (gives old s) (made s) old new queue more
    → AreLeft text new (λ n. In n (drop (i + 1) row)) (drop from more)
next_taker text row i number from s old new queue more is found inside_it left looked =
    left_as text new (λ n. In n (drop i row)) (λ n. In n (drop (i + 1) row)) (drop from more) step
    (left_on text (λ n. In n (drop i row)) from s old new queue more inside_it left looked)
  where
    step : (n : ℕ) (other : Sym) → slice_get text.symbols n ≡ Some other → gives new other ≡ true → In n (drop i row) → In n (drop (i + 1) row)
    step n other at g h = by (dropped_row row i number n is h)
      where
        by : (n ≡ number) ⊎ In n (drop (i + 1) row) → In n (drop (i + 1) row)
        by (inl e) =
            let same = same_symbol text number s other found (subst (λ k. slice_get text.symbols k ≡ Some other) e at) in
            absurd (true≢false (sym (ap (gives new) same ∙ g) ∙ given s old new queue more looked))
        by (inr l) = l

pub no_taker : (text : Whole) (row : List ℕ) (i number : ℕ) (has : List Bool) (queue : List ℕ) → slice_get row i ≡ Some number → slice_get text.symbols number ≡ None
    → AreLeft text has (λ n. In n (drop i row)) queue → AreLeft text has (λ n. In n (drop (i + 1) row)) queue
no_taker text row i number has queue is found = left_as text has (λ n. In n (drop i row)) (λ n. In n (drop (i + 1) row)) queue step
  where
    step : (n : ℕ) (other : Sym) → slice_get text.symbols n ≡ Some other → gives has other ≡ true → In n (drop i row) → In n (drop (i + 1) row)
    step n other at g h = by (dropped_row row i number n is h)
      where
        by : (n ≡ number) ⊎ In n (drop (i + 1) row) → In n (drop (i + 1) row)
        by (inl e) = none_is other (sym found ∙ subst (λ k. slice_get text.symbols k ≡ Some other) e at)
        by (inr l) = l

pub longer : (from : ℕ) (s : Sym) (old new : List Bool) (queue more : List ℕ) → from ≤ length queue → Looked (gives old s) (made s) old new queue more → from ≤ length more
longer from s old new queue more h looked = by (gives old s) looked
  where
    by : (b : Bool) → Looked b (made s) old new queue more → from ≤ length more
    by false l = subst (λ q. from ≤ length q) (sym l.1) h
    by true l = let n = length-append queue (made s ∷ []) in subst (λ q. from ≤ length q) (sym l.1) (omega arith)

pub row_looked : (text : Whole) (has : List Bool) (row queue : List ℕ) (i : ℕ) → length row ≤ i → AreLeft text has (λ n. In n (drop i row)) queue → AreLeft text has (λ n. ⊥) queue
row_looked text has row queue i over = left_as text has (λ n. In n (drop i row)) (λ n. ⊥) queue (λ n s at g h. in_none (subst (In n) (none_dropped row i over) h))

-- the next sort of the queue, and the constructors that take a value of it
pub next_row : {A : Type 0} (text : Whole) (table : List (Vec ℕ A)) (row : Vec ℕ A) (has : List Bool) (queue : List ℕ) (at sort : ℕ) → AreTakers text (length text.symbols) table
    → slice_get queue at ≡ Some sort → slice_get table sort ≡ Some row → AreLeft text has (λ n. ⊥) (drop at queue) → AreLeft text has (λ n. In n (vec_items row)) (drop (at + 1) queue)
next_row {A} text table row has queue at sort takers is found left number s here_it g = by (left number s here_it g)
  where
    one : (n : ℕ) → In n (drop at queue) → Takes n s → In number (vec_items row) ⊎ Waits (drop (at + 1) queue) s
    one n h takes = which (dropped_row queue at sort n is h)
      where
        which : (n ≡ sort) ⊎ In n (drop (at + 1) queue) → In number (vec_items row) ⊎ Waits (drop (at + 1) queue) s
        which (inl e) = inl (takers.all number sort s row (slice_get_within text.symbols number s here_it) here_it (subst (λ k. Takes k s) e takes) found)
        which (inr r) = inr (n, r, takes)

    by : ⊥ ⊎ Waits (drop at queue) s → In number (vec_items row) ⊎ Waits (drop (at + 1) queue) s
    by (inl never) = absurd never
    by (inr w) = one w.0 w.1 w.2

stands_at : (xs : List ℕ) (i n : ℕ) → slice_get xs i ≡ Some n → In n xs
stands_at [] i n e = none_is n e
stands_at (x ∷ xs) zero n e = subst (λ y. In y (x ∷ xs)) (some_is x n e) here
stands_at (x ∷ xs) (suc i) n e = there (stands_at xs i n e)

pub has_row : {A : Type 0} {G : Type 0} (text : Whole) (table : List (Vec ℕ A)) (has : List Bool) (queue : List ℕ) (at sort : ℕ) → AreTakers text (length text.symbols) table
    → IsFound text has queue → slice_get queue at ≡ Some sort → length table ≤ sort → G
has_row text table has queue at sort takers found is beyond =
    let within = found.within sort (stands_at queue at sort is) in
    let same = takers.one_each in absurd (omega arith)

pub none_past : {A : Type 0} (xs : List A) (i : ℕ) → slice_get xs i ≡ None → length xs ≤ i
none_past [] i e = omega arith
none_past (x ∷ xs) zero e = none_is x (sym e)
none_past (x ∷ xs) (suc i) e = let h = none_past xs i e in omega arith
