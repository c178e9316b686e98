-- The equations of the universe with each term's first place are the law list.
use Rattle.std.proofs.Common.{◌≡◌, ℕ, ◌≤◌, inl, inr, ◌==◌, Bool, true, false, if◌then◌else◌, List, [], ◌∷◌, length, map, get_or, Option, Some, None, option_map, slice_get, arith, sym, ap, ◌∙◌, refl, subst}
use Rattle.std.proofs.Math.Path.{subst₂}
use Rattle.std.proofs.Math.Nat.{eq-or-lt_of_le}
use Rattle.std.proofs.lemmas.Bool.{eqb-true, eq-eqb}
use Rattle.std.proofs.lemmas.List.{length-map}
use Rattle.std.proofs.lemmas.Option.{slice_get-get_or, slice_get_within, slice_get-map, get_or_from_slice_get}
use Rattle.law_sig.specs.Lists.{In, Rising}
use Rattle.law_sig.specs.Lists.In.{here, there}
use Rattle.law_sig.specs.Signature.{sort_of}
use Rattle.law_sig.specs.Tests.{InU, Pools}
use Rattle.law_sig.specs.Order.{IsBefore}
use Rattle.law_sig.specs.Laws.{IsLeast, IsListed, IsLawList}
use Rattle.law_sig.specs.declared.tree.SortId.{SortId}
use Rattle.law_sig.specs.declared.tree.Tree.{Tree}
use Rattle.law_sig.specs.declared.parts.Equation.{Equation}
use Rattle.law_sig.specs.declared.parts.SigParts.{SigParts}
use Rattle.law_laws.proofs.Orders.{never_before_itself, before_chain}
use Rattle.law_explore.specs.Universe.{IsUniverse}
use Rattle.law_explore.specs.Firsts.{AreFirsts}
use Rattle.law_explore.specs.Equations.{equation_of, equation_at, equations}
use Rattle.law_explore.specs.Tells.{Tells}
use Rattle.law_explore.proofs.Rising.{place_of, at_place, rising_places}
use Rattle.law_explore.proofs.RowFacts.{in_each_below, each_below_in, each_below_rising}

pub mapped_some : {A B : Type 0} (f : A → B) (o : Option A) (y : B) → option_map f o ≡ Some y → (x : A) × (o ≡ Some x) × (f x ≡ y)
mapped_some f None y e = cc
mapped_some f (Some x) y e = (x, refl, cc)

pub some_is : {A : Type 0} {x y : A} → Some x ≡ Some y → x ≡ y
some_is e = cc

in_if : (b : Bool) (d : Equation) {e : Equation} → In e (if b then [] else d ∷ []) → (b ≡ false) × (e ≡ d)
in_if true d at = elim at [ ]
in_if false d here = (refl, refl)
in_if false d (there at) = elim at [ ]

if_in : (b : Bool) (d : Equation) → b ≡ false → In d (if b then [] else d ∷ [])
if_in true d e = cc
if_in false d e = here

-- the equation at a place
record IsEquation (terms : List Tree) (firsts : List ℕ) (at : ℕ) (e : Equation) : Type 0 where
  term : Tree
  first : ℕ
  here_is : slice_get terms at ≡ Some term
  first_is : slice_get firsts at ≡ Some first
  other : first ≡ at → ⊥
  is : e ≡ record { left = term; right = get_or terms first term }

in_equation : (terms : List Tree) (firsts : List ℕ) (at : ℕ) (e : Equation) → In e (equation_at terms firsts at) → IsEquation terms firsts at e
in_equation terms firsts at e p = by (slice_get terms at) (slice_get firsts at) refl refl p
  where
    by : (o : Option Tree) (q : Option ℕ) → slice_get terms at ≡ o → slice_get firsts at ≡ q → In e (equation_of terms at o q) → IsEquation terms firsts at e
    by None q a b p = elim p [ ]
    by (Some t) None a b p = elim p [ ]
    by (Some t) (Some first) a b p =
        let (differ, is) = in_if (first == at) (record { left = t; right = get_or terms first t }) p in
        record { term = t; first = first; here_is = a; first_is = b; other = λ s. let same = eq-eqb first at s in cc; is = is }

equation_in : (terms : List Tree) (firsts : List ℕ) (at : ℕ) (e : Equation) → IsEquation terms firsts at e → In e (equation_at terms firsts at)
equation_in terms firsts at e i =
    subst₂ (λ o q. In e (equation_of terms at o q)) (sym i.here_is) (sym i.first_is)
    (subst (λ d. In d (equation_of terms at (Some i.term) (Some i.first))) (sym i.is)
    (if_in (i.first == at) (record { left = i.term; right = get_or terms i.first i.term }) (differ (i.first == at) refl)))
  where
    differ : (b : Bool) → (i.first == at) ≡ b → (i.first == at) ≡ false
    differ true s = absurd (i.other (eqb-true i.first at s))
    differ false s = s

equation_rising : (R : Equation → Equation → Type 0) (terms : List Tree) (firsts : List ℕ) (at : ℕ) → Rising R (equation_at terms firsts at)
equation_rising R terms firsts at = by (slice_get terms at) (slice_get firsts at)
  where
    one : (b : Bool) (d : Equation) → Rising R (if b then [] else d ∷ [])
    one true d = tt
    one false d = (tt, tt)

    by : (o : Option Tree) (q : Option ℕ) → Rising R (equation_of terms at o q)
    by None q = tt
    by (Some t) None = tt
    by (Some t) (Some first) = one (first == at) (record { left = t; right = get_or terms first t })

module _ (parts : SigParts) (pools : Pools) (terms : List Tree) (class : Tree → ℕ) (firsts : List ℕ)
    (universe : IsUniverse parts terms) (tells : Tells parts pools terms class) (are : AreFirsts (map class terms) firsts) where
  -- the term at a place, and the term at its first place
  record HasFirst (at : ℕ) (t : Tree) : Type 0 where
    first : ℕ
    partner : Tree
    first_is : slice_get firsts at ≡ Some first
    there_is : slice_get terms first ≡ Some partner
    same : class t ≡ class partner
    lowest : (k : ℕ) (w : Tree) → slice_get terms k ≡ Some w → class t ≡ class w → first ≤ k

  has_first : (at : ℕ) (t : Tree) → slice_get terms at ≡ Some t → HasFirst at t
  has_first at t e =
      let less = slice_get_within terms at t e in
      let long = are.one_each ∙ length-map terms class in
      let found = slice_get-get_or firsts at 0 (omega arith) in
      let i = are.each at (get_or firsts at 0) found in
      let own : i.class ≡ class t = some_is (sym i.here ∙ slice_get-map class terms at ∙ ap (option_map class) e) in
      let (u, u_is, u_class) = mapped_some class (slice_get terms (get_or firsts at 0)) i.class (sym (slice_get-map class terms (get_or firsts at 0)) ∙ i.there) in
      record {
        first = get_or firsts at 0;
        partner = u;
        first_is = found;
        there_is = u_is;
        same = sym own ∙ sym u_class;
        lowest = λ k w w_is w_class. i.least k (slice_get-map class terms k ∙ ap (option_map class) w_is ∙ ap Some (sym w_class ∙ sym own));
      }

  is_least : (sort : SortId) (at : ℕ) (t : Tree) → slice_get terms at ≡ Some t → sort_of parts t ≡ Some sort → (h : HasFirst at t) → IsLeast parts pools sort t h.partner
  is_least sort at t e sorted h =
      let partner_in = at_place h.partner terms h.first h.there_is in
      let (own, u) = (universe.members h.partner).0 partner_in in
      let (sorts, same) = (tells t h.partner (at_place t terms at e) partner_in).0 h.same in
      record {
        sorted = sorted;
        bounded = record { sorted = sym sorts ∙ sorted; bounded = u.bounded; small = u.small };
        same = same;
        least = λ w w_in w_same.
            let w_at = (universe.members w).1 (sort, w_in) in
            let (k, w_is) = place_of w_at in
            let lowest = h.lowest k w w_is ((tells t w (at_place t terms at e) w_at).1 (sorted ∙ sym w_in.sorted, w_same)) in
            elim (eq-or-lt_of_le lowest) [
              | inl s ↦ inl (some_is (sym w_is ∙ ap (slice_get terms) (sym s) ∙ h.there_is))
              | inr less ↦ inr (rising_places (IsBefore parts) terms h.first k h.partner w universe.ordered less h.there_is w_is)
            ];
      }

  -- each term of the universe has a least one
  pub has_least : (sort : SortId) (t : Tree) → InU parts sort t → (u : Tree) × IsLeast parts pools sort t u
  has_least sort t t_in =
      let (at, e) = place_of ((universe.members t).1 (sort, t_in)) in
      let h = has_first at t e in
      (h.partner, is_least sort at t e t_in.sorted h)

  listed : (at : ℕ) (e : Equation) → IsEquation terms firsts at e → IsListed parts pools e
  listed at e i =
      let h = has_first at i.term i.here_is in
      let t_at = at_place i.term terms at i.here_is in
      let (sort, t_in) = (universe.members i.term).0 t_at in
      let first : h.first ≡ i.first = some_is (sym h.first_is ∙ i.first_is) in
      let right : get_or terms i.first i.term ≡ h.partner = get_or_from_slice_get terms i.first h.partner i.term (ap (slice_get terms) (sym first) ∙ h.there_is) in
      let lowest = h.lowest at i.term i.here_is refl in
      let other = i.other in
      let apart : i.term ≡ h.partner → ⊥ = λ s. elim (eq-or-lt_of_le lowest) [
        | inl same ↦ other (sym first ∙ same)
        | inr less ↦ never_before_itself parts i.term
            (subst (λ p. IsBefore parts p i.term) (sym s) (rising_places (IsBefore parts) terms h.first at h.partner i.term universe.ordered less h.there_is i.here_is))
      ] in
      subst (IsListed parts pools) (sym (i.is ∙ ap (λ r. record { left = i.term; right = r }) right))
      (record { sort = sort; bounded = t_in; least = is_least sort at i.term i.here_is t_in.sorted h; other = apart })

  -- a term has one least term
  one_least : (sort : SortId) (t u w : Tree) → IsLeast parts pools sort t u → IsLeast parts pools sort t w → u ≡ w
  one_least sort t u w a b = elim (a.least w b.bounded b.same) [
    | inl e ↦ sym e
    | inr less ↦ elim (b.least u a.bounded a.same) [
      | inl e ↦ e
      | inr more ↦ absurd (never_before_itself parts u (before_chain parts u w u less more))
    ]
  ]

  found : (e : Equation) → IsListed parts pools e → In e (equations terms firsts)
  found e l =
      let t_at = (universe.members e.left).1 (l.sort, l.bounded) in
      let (at, here_is) = place_of t_at in
      let h = has_first at e.left here_is in
      let right : h.partner ≡ e.right = one_least l.sort e.left h.partner e.right (is_least l.sort at e.left here_is l.bounded.sorted h) l.least in
      let is : get_or terms h.first e.left ≡ e.right = get_or_from_slice_get terms h.first h.partner e.left h.there_is ∙ right in
      each_below_in (length terms) (equation_at terms firsts) at (slice_get_within terms at e.left here_is)
      (equation_in terms firsts at e (record {
        term = e.left;
        first = h.first;
        here_is = here_is;
        first_is = h.first_is;
        other = λ s. l.other (some_is (sym here_is ∙ ap (slice_get terms) (sym s) ∙ h.there_is) ∙ right);
        is = ap (λ r. record { left = e.left; right = r }) (sym is);
      }))

  -- the equations are the law list
  pub equations_are : IsLawList parts pools (equations terms firsts)
  equations_are = record {
    members = λ e. (
      λ p. let (at, less, q) = in_each_below (length terms) (equation_at terms firsts) p in listed at e (in_equation terms firsts at e q),
      found e,
    );
    ordered = each_below_rising (λ (d e : Equation). IsBefore parts d.left e.left) (length terms) (equation_at terms firsts)
        (λ k less. equation_rising (λ (d e : Equation). IsBefore parts d.left e.left) terms firsts k)
        (λ j k less within d e p q.
        let a = in_equation terms firsts j d p in
        let b = in_equation terms firsts k e q in
        subst₂ (IsBefore parts) (sym (ap (λ (x : Equation). x.left) a.is)) (sym (ap (λ (x : Equation). x.left) b.is))
        (rising_places (IsBefore parts) terms j k a.term b.term universe.ordered less a.here_is b.here_is));
  }
