-- Lists without repetition, and the constructors of a sort.
use Rattle.std.proofs.Common.{◌≡◌, ◌≢◌, ℕ, zero, suc, ◌+◌, ◌≤◌, List, [], ◌∷◌, ◌++◌, ◌⊎◌, inl, inr, map, length, Bool, true, false, true≢false, cond, if◌then◌else◌, is_some, Some, slice_get, arith, refl, sym, ap, ◌∙◌, subst}
use Rattle.std.specs.List.{position_from}
use Rattle.law_sig.specs.Lists.{In, Each, AreDistinct}
use Rattle.law_sig.specs.Lists.In.{here, there}
use Rattle.law_sig.specs.Trees.{same_sort}
use Rattle.law_sig.specs.Signature.{makes_sort, constructors_from}
use Rattle.law_sig.specs.declared.tree.SortId.{SortId}
use Rattle.law_sig.specs.declared.tree.SymId.{SymId}
use Rattle.law_sig.specs.declared.parts.Con.{Con}
use Rattle.law_sig.specs.declared.parts.Sym.{Sym}
use Rattle.law_sig.specs.declared.parts.Sym.TheVariants as sym
use Rattle.law_laws.proofs.BodyFacts.{some_is, none_is}
use Rattle.law_laws.proofs.ListFacts.{each_of, of_each, in_none, in_left, in_right, in_rest}
use Rattle.law_typing.specs.Names.{same_name, number_of}
use Rattle.law_typing.proofs.NameTable.{same_itself}
use Rattle.law_typing.proofs.SideFacts.{headed}

-- Names that were not there before

abbrev pub NewFrom : List (List ℕ) → List (List ℕ) → Type 0
NewFrom before [] = Unit {0}
NewFrom before (n ∷ names) = (is_some (number_of before n) ≡ false) × NewFrom (before ++ n ∷ []) names

pub in_numbered : {x : List ℕ} {xs : List (List ℕ)} (from : ℕ) → In x xs → is_some (position_from (same_name x) from xs) ≡ true
in_numbered {x} from (here {xs = xs}) = ap (λ b. is_some (cond b (Some from) (position_from (same_name x) (from + 1) xs))) (same_itself x)
in_numbered {x} from (there {y = y} {xs = xs} at) = by (same_name x y) refl (in_numbered (from + 1) at)
  where
    by : (b : Bool) → same_name x y ≡ b → is_some (position_from (same_name x) (from + 1) xs) ≡ true → is_some (position_from (same_name x) from (y ∷ xs)) ≡ true
    by true e h = ap (λ b. is_some (cond b (Some from) (position_from (same_name x) (from + 1) xs))) e
    by false e h = ap (λ b. is_some (cond b (Some from) (position_from (same_name x) (from + 1) xs))) e ∙ h

not_in : (before names : List (List ℕ)) → NewFrom before names → (x : List ℕ) → In x before → Each (λ y. x ≢ y) names
not_in before [] h x at = tt
not_in before (y ∷ names) h x at = (apart, not_in (before ++ y ∷ []) names h.1 x (in_left (y ∷ []) at))
  where
    apart : x ≢ y
    apart e = true≢false (sym (in_numbered 0 (subst (λ z. In z before) e at)) ∙ h.0)

pub new_distinct : (before names : List (List ℕ)) → NewFrom before names → AreDistinct names
new_distinct before [] h = tt
new_distinct before (x ∷ names) h = (not_in (before ++ x ∷ []) names h.1 x (in_right before here), new_distinct (before ++ x ∷ []) names h.1)

-- A list without repetition is no longer than one that has its items

pub record Removed {A : Type 0} (x : A) (ys : List A) : Type 0 where
  pub rest : List A
  pub less : length ys ≡ suc (length rest)
  pub others : (z : A) → In z ys → (z ≡ x) ⊎ In z rest

removed : {A : Type 0} {x : A} {ys : List A} → In x ys → Removed x ys
removed {A} {x} (here {xs = ys}) = record { rest = ys; less = refl; others = λ z at. in_rest at }
removed {A} {x} (there {y = y} {xs = ys} at) =
    let r = removed at in
    record { rest = y ∷ r.rest; less = ap suc r.less; others = λ z in_all. by r z (in_rest in_all) }
  where
    after : (r : Removed x ys) (z : A) → (z ≡ x) ⊎ In z r.rest → (z ≡ x) ⊎ In z (y ∷ r.rest)
    after r z (inl e) = inl e
    after r z (inr k) = inr (there k)

    by : (r : Removed x ys) (z : A) → (z ≡ y) ⊎ In z ys → (z ≡ x) ⊎ In z (y ∷ r.rest)
    by r z (inl e) = inr (subst (λ q. In q (y ∷ r.rest)) (sym e) here)
    by r z (inr k) = after r z (r.others z k)

pub no_longer : {A : Type 0} (xs ys : List A) → AreDistinct xs → ((x : A) → In x xs → In x ys) → length xs ≤ length ys
no_longer [] ys distinct h = omega arith
no_longer {A} (x ∷ xs) ys distinct h =
    let r = removed (h x here) in
    let l : length xs ≤ length r.rest = no_longer xs r.rest distinct.1 (λ z at. by r z at (r.others z (h z (there at)))) in
    let e : length ys ≡ suc (length r.rest) = r.less in omega arith
  where
    by : (r : Removed x ys) (z : A) → In z xs → (z ≡ x) ⊎ In z r.rest → In z r.rest
    by r z at (inl e) = absurd (of_each (λ y. x ≢ y) at distinct.0 (sym e))
    by r z at (inr k) = k

pub map_distinct : {A B : Type 0} (f : A → B) (xs : List A) → AreDistinct xs → ((x y : A) → In x xs → In y xs → f x ≡ f y → x ≡ y) → AreDistinct (map f xs)
map_distinct f [] d h = tt
map_distinct {A} {B} f (x ∷ xs) d h = (apart xs d.0 (λ y at. h x y here (there at)), map_distinct f xs d.1 (λ a c i j. h a c (there i) (there j)))
  where
    apart : (ys : List A) → Each (λ y. x ≢ y) ys → ((y : A) → In y ys → f x ≡ f y → x ≡ y) → Each (λ z. f x ≢ z) (map f ys)
    apart [] d g = tt
    apart (y ∷ ys) d g = ((λ e. d.0 (g y here e)), apart ys d.1 (λ z at. g z (there at)))

-- Constructors of a sort

pub record IsConAt (k : ℕ) (xs : List Sym) (s : SortId) (c : SymId) : Type 0 where
  pub place : ℕ
  pub is : c ≡ record { 0 = k + place }
  pub con : Con
  pub at : slice_get xs place ≡ Some (sym.Con con)
  pub of : same_sort con.sort s ≡ true

later_con : (k : ℕ) (x : Sym) (xs : List Sym) (s : SortId) (c : SymId) → IsConAt (k + 1) xs s c → IsConAt k (x ∷ xs) s c
later_con k x xs s c h =
    let e : (k + 1) + h.place ≡ k + suc h.place = omega arith in
    record { place = suc h.place; is = h.is ∙ ap (λ n. record { 0 = n }) e; con = h.con; at = h.at; of = h.of }

pub cons_of : (k : ℕ) (xs : List Sym) (s : SortId) (c : SymId) → In c (constructors_from k xs s) → IsConAt k xs s c
cons_of k [] s c at = in_none at
cons_of k (sym.Fun fun ∷ xs) s c at = later_con k (sym.Fun fun) xs s c (cons_of (k + 1) xs s c at)
cons_of k (sym.Con con ∷ xs) s c at = by (same_sort con.sort s) refl at (cons_of (k + 1) xs s c)
  where
    plain : k ≡ k + 0
    plain = omega arith

    found : same_sort con.sort s ≡ true → (In c (constructors_from (k + 1) xs s) → IsConAt (k + 1) xs s c) → (c ≡ record { 0 = k }) ⊎ In c (constructors_from (k + 1) xs s)
        → IsConAt k (sym.Con con ∷ xs) s c
    found e rest (inl h) = record { place = 0; is = h ∙ ap (λ n. record { 0 = n }) plain; con = con; at = refl; of = e }
    found e rest (inr h) = later_con k (sym.Con con) xs s c (rest h)

    by : (t : Bool) → same_sort con.sort s ≡ t → In c (if t then record { 0 = k } ∷ constructors_from (k + 1) xs s else constructors_from (k + 1) xs s)
        → (In c (constructors_from (k + 1) xs s) → IsConAt (k + 1) xs s c) → IsConAt k (sym.Con con ∷ xs) s c
    by true e h rest = found e rest (in_rest h)
    by false e h rest = later_con k (sym.Con con) xs s c (rest h)

pub of_cons : (k : ℕ) (xs : List Sym) (s : SortId) (i : ℕ) (con : Con) → slice_get xs i ≡ Some (sym.Con con) → same_sort con.sort s ≡ true → In (record { 0 = k + i }) (constructors_from k xs s)
of_cons k [] s i con e h = none_is (sym.Con con) e
of_cons k (x ∷ xs) s zero con e h =
    let plain : k ≡ k + 0 = omega arith in
    let mine : makes_sort s x ≡ true = ap (makes_sort s) (some_is x (sym.Con con) e) ∙ h in
    subst (λ l. In (record { 0 = k + 0 }) l) (sym (ap (λ t. if t then record { 0 = k } ∷ constructors_from (k + 1) xs s else constructors_from (k + 1) xs s) mine))
    (subst (λ n. In (record { 0 = n }) (record { 0 = k } ∷ constructors_from (k + 1) xs s)) plain here)
of_cons k (x ∷ xs) s (suc i) con e h =
    let next : (k + 1) + i ≡ k + suc i = omega arith in
    by (makes_sort s x) refl (subst (λ n. In (record { 0 = n }) (constructors_from (k + 1) xs s)) next (of_cons (k + 1) xs s i con e h))
  where
    by : (t : Bool) → makes_sort s x ≡ t → In (record { 0 = k + suc i }) (constructors_from (k + 1) xs s) → In (record { 0 = k + suc i }) (constructors_from k (x ∷ xs) s)
    by true m g = subst (λ l. In (record { 0 = k + suc i }) l)
        (sym (ap (λ t. if t then record { 0 = k } ∷ constructors_from (k + 1) xs s else constructors_from (k + 1) xs s) m)) (there g)
    by false m g = subst (λ l. In (record { 0 = k + suc i }) l)
        (sym (ap (λ t. if t then record { 0 = k } ∷ constructors_from (k + 1) xs s else constructors_from (k + 1) xs s) m)) g

pub cons_distinct : (k : ℕ) (xs : List Sym) (s : SortId) → AreDistinct (constructors_from k xs s)
cons_distinct k [] s = tt
cons_distinct k (x ∷ xs) s = by (makes_sort s x) refl (cons_distinct (k + 1) xs s)
  where
    apart : (c : SymId) → In c (constructors_from (k + 1) xs s) → ◌≢◌ {A = SymId} (record { 0 = k }) c
    apart c at e =
        let f = cons_of (k + 1) xs s c at in
        let n : k ≡ (k + 1) + f.place = ap (λ (z : SymId). z.0) (e ∙ f.is) in absurd (omega arith)

    by : (t : Bool) → makes_sort s x ≡ t → AreDistinct (constructors_from (k + 1) xs s) → AreDistinct (constructors_from k (x ∷ xs) s)
    by true m h = subst AreDistinct (sym (ap (λ t. if t then record { 0 = k } ∷ constructors_from (k + 1) xs s else constructors_from (k + 1) xs s) m))
        (each_of (λ c. ◌≢◌ {A = SymId} (record { 0 = k }) c) (constructors_from (k + 1) xs s) apart, h)
    by false m h = subst AreDistinct (sym (ap (λ t. if t then record { 0 = k } ∷ constructors_from (k + 1) xs s else constructors_from (k + 1) xs s) m)) h

-- without the bodies they are the same
pub cons_headed : (k : ℕ) (xs : List Sym) (s : SortId) → constructors_from k (map headed xs) s ≡ constructors_from k xs s
cons_headed k [] s = refl
cons_headed k (sym.Con con ∷ xs) s = ap (λ l. if same_sort con.sort s then record { 0 = k } ∷ l else l) (cons_headed (k + 1) xs s)
cons_headed k (sym.Fun fun ∷ xs) s = cons_headed (k + 1) xs s

-- a list without repetition has all items of a list that is no longer and has its items
pub pigeons : {A : Type 0} (xs ys : List A) → AreDistinct xs → ((x : A) → In x xs → In x ys) → length ys ≤ length xs → (y : A) → In y ys → In y xs
pigeons [] [] distinct have few y at = at
pigeons [] (z ∷ ys) distinct have few y at = absurd (omega arith)
pigeons {A} (x ∷ xs) ys distinct have few y at =
    let r = removed (have x here) in
    let e : length ys ≡ suc (length r.rest) = r.less in
    let l : length r.rest ≤ length xs = omega arith in
    by r (pigeons xs r.rest distinct.1 (λ z in_xs. other r z in_xs (r.others z (have z (there in_xs)))) l) (r.others y at)
  where
    other : (r : Removed x ys) (z : A) → In z xs → (z ≡ x) ⊎ In z r.rest → In z r.rest
    other r z in_xs (inl e) = absurd (of_each (λ w. x ≢ w) in_xs distinct.0 (sym e))
    other r z in_xs (inr h) = h

    by : (r : Removed x ys) → ((z : A) → In z r.rest → In z xs) → (y ≡ x) ⊎ In y r.rest → In y (x ∷ xs)
    by r rest (inl e) = subst (λ w. In w (x ∷ xs)) (sym e) here
    by r rest (inr h) = there (rest y h)
