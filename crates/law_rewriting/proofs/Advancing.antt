-- Completion has one course.
use Rattle.std.proofs.Common.{◌≡◌, ℕ, zero, suc, ◌+◌, Option, Some, None, List, [], ◌∷◌, ◌++◌, sym, refl, ap, ◌∙◌, subst, arith}
use Rattle.law_sig.specs.declared.tree.Tree.{Tree}
use Rattle.law_sig.specs.declared.parts.SigParts.{SigParts}
use Rattle.law_sig.specs.declared.chain.Step.{Step}
use Rattle.law_rewriting.specs.Steps.{IsNf}
use Rattle.law_rewriting.specs.Pairs.{PairName, NamedPair}
use Rattle.law_rewriting.specs.Completion.{lemma, lemma_of, equations_of, all_rules, State, Becomes, Takes, Halt, Spent, Aside, Advances}
use Rattle.law_rewriting.specs.Completion.Becomes.{set_aside, joined, learnt}
use Rattle.law_rewriting.specs.Completion.Advances.{spent, saturated, aside, takes}
use Rattle.law_rewriting.proofs.OneStep.{one_normal_form}
use Rattle.law_rewriting.proofs.Items.{one_item, no_item}

one_form : (parts : SigParts) (s : State) {a b : List Step} {t u v : Tree} → IsNf parts (all_rules s.kept) a t u → IsNf parts (all_rules s.kept) b t v → u ≡ v
one_form parts s h k = (one_normal_form parts (all_rules s.kept) h k).1

becomes_one : (parts : SigParts) (s : State) (x : NamedPair) {t u : State} → Becomes parts s x t → Becomes parts s x u → t ≡ u
becomes_one parts s x (set_aside large) (set_aside large') = refl
becomes_one parts s x (set_aside large) (joined small m) = absurd (small large)
becomes_one parts s x (set_aside large) (learnt small u v ls rs l r differ) = absurd (small large)
becomes_one parts s x (joined small m) (set_aside large) = absurd (small large)
becomes_one parts s x (joined small m) (joined small' m') = refl
becomes_one parts s x (joined small m) (learnt small' u v ls rs l r differ) = absurd (differ (sym (one_form parts s m.left l) ∙ one_form parts s m.right r))
becomes_one parts s x (learnt small u v ls rs l r differ) (set_aside large) = absurd (small large)
becomes_one parts s x (learnt small u v ls rs l r differ) (joined small' m) = absurd (differ (sym (one_form parts s m.left l) ∙ one_form parts s m.right r))
becomes_one parts s x (learnt small u v ls rs l r differ) (learnt small' u' v' ls' rs' l' r' differ') =
    λ i. let z : State = record { kept = s.kept ++ lemma (lemma_of parts (one_form parts s l l' i) (one_form parts s r r' i)) ∷ []; taken = suc s.taken; aside = s.aside } in z

pub takes_one : (parts : SigParts) (s t u : State) → Takes parts s t → Takes parts s u → t ≡ u
takes_one parts s t u h k =
    let e = one_item parts (equations_of s.kept) s.taken h.pair k.pair h.item k.item in
    becomes_one parts s h.pair h.becomes (subst (λ z. Becomes parts s z u) (sym e) k.becomes)

not_both : {n : PairName} (o : Option PairName) → o ≡ None → o ≡ Some n → ⊥
not_both o h k = let e = sym h ∙ k in cc

-- where no pair is left, nothing is taken
pub record SameEnd (s t : State) (g h : Halt) : Type 0 where
  pub state : s ≡ t
  pub halt : g ≡ h

pub advances_one : (parts : SigParts) {s : State} {q : ℕ} {t u : State} {g h : Halt} → Advances parts s q t g → Advances parts s q u h → SameEnd t u g h
advances_one parts (spent s x i) (spent s' x' i') = record { state = refl; halt = refl }
advances_one parts (spent s x i) (saturated s' q e none) = absurd (no_item parts (equations_of s.kept) s.taken x i e)
advances_one parts (spent s x i) (aside s' q name e some) = absurd (no_item parts (equations_of s.kept) s.taken x i e)
advances_one parts (saturated s q e none) (spent s' x i) = absurd (no_item parts (equations_of s.kept) s.taken x i e)
advances_one parts (saturated s q e none) (saturated s' q' e' none') = record { state = refl; halt = refl }
advances_one parts (saturated s q e none) (aside s' q' name e' some) = absurd (not_both s.aside none some)
advances_one parts (saturated s q e none) (takes s' t e' q' h k more) = absurd (no_item parts (equations_of s.kept) s.taken k.pair k.item e)
advances_one parts (aside s q name e some) (spent s' x i) = absurd (no_item parts (equations_of s.kept) s.taken x i e)
advances_one parts (aside s q name e some) (saturated s' q' e' none) = absurd (not_both s.aside none some)
advances_one parts (aside s q name e some) (aside s' q' name' e' some') = let k : name ≡ name' = some_same (sym some ∙ some') in record { state = refl; halt = ap Aside k }
  where
    some_same : Some name ≡ Some name' → name ≡ name'
    some_same h = cc
advances_one parts (aside s q name e some) (takes s' t e' q' h k more) = absurd (no_item parts (equations_of s.kept) s.taken k.pair k.item e)
advances_one parts (takes s t e q h k more) (saturated s' q' e' none) = absurd (no_item parts (equations_of s.kept) s.taken k.pair k.item e')
advances_one parts (takes s t e q h k more) (aside s' q' name e' some) = absurd (no_item parts (equations_of s.kept) s.taken k.pair k.item e')
advances_one parts (takes s t e q h k more) (takes s' t' u q' g k' more') =
    advances_one parts more (subst (λ z. Advances parts z q u g) (sym (takes_one parts s t t' k k')) more')

-- so many pairs, and then so many more
pub advances_then : (parts : SigParts) {s t u : State} {m n : ℕ} {h : Halt} → Advances parts s m t Spent → Advances parts t n u h → Advances parts s (m + n) u h
advances_then parts {u = u} {n = n} {h = h} (spent s x i) more = subst (λ z. Advances parts s z u h) (let e : n ≡ zero + n = omega arith in e) more
advances_then parts {u = u} {n = n} {h = h} (takes s t e q g k rest) more =
    subst (λ z. Advances parts s z u h) (let e : suc (q + n) ≡ suc q + n = omega arith in e) (takes s t u (q + n) h k (advances_then parts rest more))
