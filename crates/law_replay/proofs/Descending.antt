-- Down to a place of a term, and up again.
use Rattle.std.proofs.Common.{◌≡◌, ℕ, zero, suc, ◌+◌, ◌-◌, ◌<◌, ◌≤◌, ◌⊎◌, inl, inr, List, [], ◌∷◌, ◌++◌, length, map, take, drop, slice_index_or, sym, refl, ap, ap₂, ◌∙◌, subst, arith}
use denote.Bor.{Bor}
use Rattle.law_sig.specs.Lists.{Each}
use Rattle.law_sig.specs.Trees.{substituted}
use Rattle.law_sig.specs.declared.tree.SymId.{SymId}
use Rattle.law_sig.specs.declared.tree.Tree.{Tree}
use Rattle.law_sig.specs.declared.tree.Tree.TheVariants.{App}
use Rattle.law_laws.proofs.ListFacts.{mapped}
use Rattle.law_laws.proofs.BodyFacts.{some_is}
use Rattle.law_sig.specs.declared.chain.Bind.{Bind}
use Rattle.law_sig.specs.Chains.{bound_in, Rewrites}
use Rattle.law_sig.specs.Chains.Rewrites.{below}
use Rattle.law_replay.specs.declared.term.Term.{Term}
use Rattle.law_replay.specs.declared.term.Term.TheVariants.{Under, Over}
use Rattle.law_replay.specs.declared.term.Frame.{Frame}
use Rattle.law_replay.specs.Terms.{meaning, IsVariable, IsFrame, wrapped, LeadsTo}
use Rattle.law_chains.proofs.Replacing.{Below, inverted, done, around, goes_on}
use Rattle.law_chains.proofs.Comparing.{read_at}
use Rattle.law_replay.proofs.Meanings.{means-Under, means-Over, taken_more, item_of, length_map, no_place, past_all}

wrapped_last : (fs : List Frame) (f : Frame) (t : Tree) → wrapped (fs ++ f ∷ []) t ≡ wrapped fs (wrapped (f ∷ []) t)
wrapped_last [] f t = refl
wrapped_last (g ∷ fs) f t = ap (λ x. App g.head (map meaning (take g.at g.args.now) ++ x ∷ map meaning (drop (g.at + 1) g.args.now))) (wrapped_last fs f t)

each_last : {A : Type 0} (P : A → Type 0) (xs : List A) (x : A) → Each P xs → P x → Each P (xs ++ x ∷ [])
each_last P [] x have new = (new, tt)
each_last P (y ∷ xs) x have new = (have.0, each_last P xs x have.1 new)

-- Down

-- the numbers of a place from one on
pub dropped_number : (xs : List ℕ) (i : ℕ) → i < length xs → drop i xs ≡ slice_index_or xs i 0 ∷ drop (i + 1) xs
dropped_number [] i early = absurd (omega arith)
dropped_number (x ∷ xs) zero early = refl
dropped_number (x ∷ xs) (suc i) early =
    let next : suc (i + 1) ≡ suc i + 1 = omega arith in
    dropped_number xs i (omega arith) ∙ ap (λ n. slice_index_or xs i 0 ∷ drop n (x ∷ xs)) next

module _ (t : Tree) (place : List ℕ) (frames : List Frame) (rest others : List ℕ) (s : Tree) (leads : LeadsTo t place frames rest s) (k : ℕ) (rest_is : rest ≡ k ∷ others) where
  pub no_variable : IsVariable s → (from to u : Tree) → Rewrites from to place t u → ⊥
  no_variable is from to u h = let p = leads.only from to u h in no_place from to rest k others rest_is s is p.0 p.1

  module _ (f : SymId) (args : Bor (List Term)) (is : s ≡ App f (map meaning args.now)) where
    pub no_argument : length args.now ≤ k → (from to u : Tree) → Rewrites from to place t u → ⊥
    no_argument late from to u h = let p = leads.only from to u h in past_all from to rest k others rest_is s f args.now is late p.0 p.1

    pub down : (x : Term) → k < length args.now → x ≡ slice_index_or args.now k x
        → LeadsTo t place (frames ++ record { head = f; args = args; at = k } ∷ []) others (meaning x)
    down x early at = record {
      held = each_last IsFrame frames frame leads.held early;
      back = λ from to u h. subst (Rewrites from to place t) (sym (wrapped_last frames frame u)) (leads.back from to (wrapped (frame ∷ []) u) (one from to u h));
      only = λ from to u h. (let p = leads.only from to u h in
          let g = goes_on from to rest k others s p.0 f (map meaning args.now) (record { place_is = rest_is; term_is = is }) p.1 in
          (g.new, subst (λ w. Rewrites from to others w g.new) (some_is g.old (meaning x) (sym g.found ∙ item_of meaning args.now k x early at)) g.inner));
    }
      where
        frame : Frame
        frame = record { head = f; args = args; at = k }

        one : (from to u : Tree) → Rewrites from to others (meaning x) u → Rewrites from to rest s (App f (map meaning (take k args.now) ++ u ∷ map meaning (drop (k + 1) args.now)))
        one from to u h =
            let r = around args.now k x (sym (read_at args.now k x early at)) in
            subst (λ q. Rewrites from to q s (App f (map meaning (take k args.now) ++ u ∷ map meaning (drop (k + 1) args.now))))
            (ap (λ n. n ∷ others) (length_map meaning (take k args.now) ∙ r.place) ∙ sym rest_is)
            (subst (λ w. Rewrites from to (length (map meaning (take k args.now)) ∷ others) w (App f (map meaning (take k args.now) ++ u ∷ map meaning (drop (k + 1) args.now))))
            (ap (App f) (sym (mapped meaning (take k args.now) (drop (k + 1) args.now) x) ∙ ap (map meaning) (sym r.whole)) ∙ sym is)
            (below f (map meaning (take k args.now)) (map meaning (drop (k + 1) args.now)) others (meaning x) u h))

-- Up

put_between : (xs ys : List Term) (x : Term) → map meaning ((xs ++ x ∷ []) ++ ys) ≡ map meaning xs ++ meaning x ∷ map meaning ys
put_between [] ys x = refl
put_between (y ∷ xs) ys x = ap (λ l. meaning y ∷ l) (put_between xs ys x)

pub up : (frames : List Frame) (gone : ℕ) (f : Frame) (made : Term) (row : Bor (List Term)) (whole : Tree) → gone < length frames
    → f ≡ slice_index_or frames (length frames - 1 - gone) f → row.now ≡ (take f.at f.args.now ++ made ∷ []) ++ drop (f.at + 1) f.args.now
    → wrapped (take (length frames - gone) frames) (meaning made) ≡ whole → wrapped (take (length frames - (gone + 1)) frames) (meaning (Over f.head row)) ≡ whole
up frames gone f made row whole early is row_is have =
    let m = length frames - 1 - gone in
    let less : length frames - (gone + 1) ≡ m = omega arith in
    let more : length frames - gone ≡ m + 1 = omega arith in
    let within : m < length frames = omega arith in
    ap₂ (λ n t. wrapped (take n frames) t) less
    (means-Over (Over f.head row) f.head row refl ∙ ap (App f.head) (ap (map meaning) row_is ∙ put_between (take f.at f.args.now) (drop (f.at + 1) f.args.now) made))
    ∙ sym (wrapped_last (take m frames) f (meaning made)) ∙ ap (λ l. wrapped l (meaning made)) (sym (taken_more frames m f within is) ∙ ap (λ n. take n frames) (sym more)) ∙ have

-- Replaced there

pub put_back : (from to t : Tree) (place : List ℕ) (frames : List Frame) (s u : Tree) (side : Bor Tree) (binds : Bor (List Bind)) → LeadsTo t place frames [] s → s ≡ from
    → to ≡ substituted (bound_in binds.now) side.now → u ≡ wrapped frames (meaning (Under side binds)) → Rewrites from to place t u
put_back from to t place frames s u side binds leads is to_is u_is =
    subst (Rewrites from to place t) (ap (wrapped frames) (to_is ∙ sym (means-Under (Under side binds) side binds refl)) ∙ sym u_is)
    (leads.back from to to (done from to s [] refl is))

pub not_there : (from to t : Tree) (place : List ℕ) (frames : List Frame) (s : Tree) → LeadsTo t place frames [] s → (s ≡ from → ⊥)
    → (u : Tree) → Rewrites from to place t u → ⊥
not_there from to t place frames s leads never u h = let p = leads.only from to u h in by p.0 (inverted p.1)
  where
    by : (v : Tree) → ((◌≡◌ {A = List ℕ} [] []) × (s ≡ from) × (v ≡ to)) ⊎ Below from to [] s v → ⊥
    by v (inl e) = never e.1
    by v (inr b) = cc b.place_is
