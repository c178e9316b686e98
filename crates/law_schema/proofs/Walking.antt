-- A walk that starts.
use Rattle.std.proofs.Common.{◌≡◌, ℕ, ◌⊎◌, inl, inr, Bool, true, false, List, [], ◌∷◌, length, vec_len, ap, sym, subst, ◌∙◌, arith}
use Rattle.std.specs.Prelude.{Vec}
use Rattle.std.specs.declared.alloc.Global.{Global}
use Rattle.std.specs.Bool.{MatchBool}
use Rattle.std.specs.Vec.{with_items}
use Rattle.std.proofs.lemmas.List.{with_items_is}
use Rattle.law_sig.specs.Expected.{IsFirstAbove, IsSpent}
use Rattle.law_listing.specs.declared.pick.Pick.{Pick}
use Rattle.law_listing.specs.Rows.{Lex}
use Rattle.law_listing.specs.Picks.{IsLower, IsRow, StartsFrom, IsRowFrom, AreFits, AreAllFits}
use Rattle.law_listing.proofs.Staging.{first_same, spent_same}
use Rattle.law_schema.specs.declared.walk.Stand.{Stand}
use Rattle.law_schema.specs.declared.walk.Stand.TheVariants.{Nowhere, Before}
use Rattle.law_schema.specs.Walks.{IsReady, IsWalk}

starts_any : (row : List Pick) → StartsFrom 0 row
starts_any [] = tt
starts_any (p ∷ row) = omega arith

-- before the first row where one was found
abbrev pub IsStandOf : Stand → Bool → Type 0
IsStandOf s found = ((found ≡ true) × (s ≡ Before)) ⊎ ((found ≡ false) × (s ≡ Nowhere))

-- the first row, or that there is none
abbrev pub IsSought : List (List ℕ) → ℕ → Bool → List Pick → Type 0
IsSought choices weight found next = MatchBool found (IsFirstAbove (Lex IsLower) (IsRowFrom choices weight 0) [] next) (IsSpent (Lex IsLower) (IsRowFrom choices weight 0) [])

ready_is : (choices : List (List ℕ)) (weight : ℕ) (s : Stand) (row next : List Pick) (found : Bool) → IsStandOf s found → IsSought choices weight found next → IsReady s choices weight row next
ready_is choices weight s row next found (inl (e, before)) first =
    subst (λ z. IsReady z choices weight row next) (sym before)
    (first_same (Lex IsLower) (IsRowFrom choices weight 0) (IsRow choices weight) [] next (λ y h. h.0) (λ y h. (h, starts_any y)) (subst (λ b. IsSought choices weight b next) e first))
ready_is choices weight s row next found (inr (e, nowhere)) spent =
    subst (λ z. IsReady z choices weight row next) (sym nowhere)
    (spent_same (Lex IsLower) (IsRowFrom choices weight 0) (IsRow choices weight) [] (λ y h. (h, starts_any y)) (subst (λ b. IsSought choices weight b next) e spent))

pub walk_started : (choices : List (List ℕ)) (fits : List (List Bool)) (weight : ℕ) (s : Stand) (row next : Vec Pick Global) (found : Bool) (sought : List Pick) → AreAllFits choices fits
    → length row.items ≡ length choices → length sought ≡ vec_len next → length sought ≡ length choices → IsStandOf s found → (AreFits choices fits → IsSought choices weight found sought)
    → IsWalk (record { choices = choices; fits = fits; weight = weight; stand = s; row = row; next = with_items next sought })
walk_started choices fits weight s row next found sought all row_long held long stand first = record {
  fits = all.behind;
  row_long = row_long;
  next_long = ap length (with_items_is next sought held) ∙ long;
  ready = subst (IsReady s choices weight row.items) (sym (with_items_is next sought held)) (ready_is choices weight s row.items sought found stand (first all.behind));
}
