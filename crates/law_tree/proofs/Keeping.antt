-- A tree and its table of children stay sound when they grow.
use Rattle.std.proofs.Common.{◌≡◌, ◌≢◌, ℕ, zero, suc, ◌<◌, ◌+◌, List, [], ◌∷◌, ◌++◌, length, slice_set, cond, Option, Some, None, sym, ap, ◌∙◌, subst, refl}
use Rattle.std.specs.List.{slice_get}
use Rattle.law_sig.specs.Lists.{Rising}
use Rattle.law_ids.specs.declared.ids.ValueId.{ValueId}
use Rattle.law_tree.specs.declared.compare.Difference.{Difference}
use Rattle.law_tree.specs.declared.nodes.Node.{Node}
use Rattle.law_tree.specs.declared.nodes.Spot.TheVariants.{Leaf}
use Rattle.law_tree.specs.Nodes.{IsChild, HasTest}
use Rattle.law_tree.specs.Looking.{same_key, Finds, FindsChild, IsSound, leaf_node, split_node, root_node}
use Rattle.law_tree.proofs.Adding.{child_nodes, child_finds, leaves_nodes, leaves_find}

pub found_child : (nodes : List Node) (found : ℕ × ℕ → Option ℕ) → Finds nodes found → (p : ℕ) (v : ValueId) (r : Option ℕ) → r ≡ found (p, v.0) → FindsChild nodes p v r
found_child nodes found finds p v None e = λ c h. let no : ◌≡◌ {A = Option ℕ} None (Some c) = e ∙ (finds p c v).0 h in cc
found_child nodes found finds p v (Some c) e = (finds p c v).1 (sym e)

pub sound_same : (ts us : List ℕ) (nodes after : List Node) (found new : ℕ × ℕ → Option ℕ) → IsSound ts nodes found → us ≡ ts → after ≡ nodes → ((q : ℕ × ℕ) → new q ≡ found q) → IsSound us after new
sound_same ts us nodes after found new h t e f =
    subst (λ z. IsSound z after new) (sym t) (subst (λ z. IsSound ts z new) (sym e)
    (record { rising = h.rising; are = h.are; finds = λ p c v. (λ k. f (p, v.0) ∙ (h.finds p c v).0 k, λ k. (h.finds p c v).1 (sym (f (p, v.0)) ∙ k)) }))

-- the tree of no items, and that of one
no_child : (nodes : List Node) → (nodes ≡ []) → (p c : ℕ) (v : ValueId) → IsChild nodes p c v → ⊥
no_child [] e p c v h = cc
no_child (n ∷ ns) e p c v h = cc

pub none_sound : (ts : List ℕ) (found : ℕ × ℕ → Option ℕ) → Rising (λ n m. n < m) ts → ((q : ℕ × ℕ) → found q ≡ None) → IsSound ts [] found
none_sound ts found rising empty = record {
  rising = rising;
  are = record { later = λ p c v h. absurd (no_child [] refl p c v h); below_splits = λ p c v h. absurd (no_child [] refl p c v h) };
  finds = λ p c v. (λ h. absurd (no_child [] refl p c v h), λ h. let no : ◌≡◌ {A = Option ℕ} None (Some c) = sym (empty (p, v.0)) ∙ h in cc);
}

no_child_of_root : (p c : ℕ) (v : ValueId) → IsChild (root_node ∷ []) p c v → ⊥
no_child_of_root p zero v h = cc
no_child_of_root p (suc c) v h = cc

pub root_sound : (ts : List ℕ) (nodes after : List Node) (found : ℕ × ℕ → Option ℕ) → IsSound ts nodes found → nodes ≡ [] → after ≡ nodes ++ root_node ∷ [] → IsSound ts after found
root_sound ts nodes after found h e f =
    subst (λ z. IsSound ts z found) (sym (f ∙ ap (λ z. z ++ root_node ∷ []) e)) (record {
      rising = h.rising;
      are = record { later = λ p c v k. absurd (no_child_of_root p c v k); below_splits = λ p c v k. absurd (no_child_of_root p c v k) };
      finds = λ p c v. (λ k. absurd (no_child_of_root p c v k), λ k. absurd (no_child nodes e p c v ((h.finds p c v).1 k)));
    })

-- a last child
pub child_sound : (ts us : List ℕ) (nodes after : List Node) (s number n place : ℕ) (v : ValueId) (split : HasTest nodes s) (found new : ℕ × ℕ → Option ℕ)
    → IsSound ts nodes found → ((c : ℕ) → IsChild nodes s c v → ⊥) → us ≡ ts → number ≡ n → place ≡ length nodes → after ≡ nodes ++ leaf_node s v number ∷ []
    → ((q : ℕ × ℕ) → new q ≡ cond (same_key (s, v.0) q) (Some place) (found q)) → IsSound us after new
child_sound ts us nodes after s number n place v split found new h nowhere t e f nodes_are updated =
    subst (λ z. IsSound z after new) (sym t) (subst (λ z. IsSound ts z new) (sym (nodes_are ∙ ap (λ z. nodes ++ leaf_node s v z ∷ []) e))
    (record {
      rising = h.rising;
      are = child_nodes nodes s n split.0 v split.1 h.are;
      finds = child_finds nodes s n split.0 v split.1 found new h.finds nowhere (λ q. updated q ∙ ap (λ z. cond (same_key (s, v.0) q) (Some z) (found q)) f);
    }))

-- two leaves in the place of one
pub leaves_sound : (ts us : List ℕ) (nodes after : List Node) (s a number n place : ℕ) (d : Difference) (x : Node) → slice_get nodes s ≡ Some x → x.spot ≡ Leaf a → d.old ≢ d.new
    → (found same mid new : ℕ × ℕ → Option ℕ) → IsSound ts nodes found → us ≡ ts → number ≡ n → place ≡ length nodes
    → after ≡ (slice_set nodes s (split_node x d.test) ++ leaf_node s d.old a ∷ []) ++ leaf_node s d.new number ∷ []
    → ((q : ℕ × ℕ) → same q ≡ found q) → ((q : ℕ × ℕ) → mid q ≡ cond (same_key (s, d.old.0) q) (Some place) (same q))
    → ((q : ℕ × ℕ) → new q ≡ cond (same_key (s, d.new.0) q) (Some (place + 1)) (mid q)) → IsSound us after new
leaves_sound ts us nodes after s a number n place d x at leaf differ found same mid new h t e f nodes_are kept first second =
    subst (λ z. IsSound z after new) (sym t)
    (subst (λ z. IsSound ts z new) (sym (nodes_are ∙ ap (λ z. (slice_set nodes s (split_node x d.test) ++ leaf_node s d.old a ∷ []) ++ leaf_node s d.new z ∷ []) e))
    (record {
      rising = h.rising;
      are = leaves_nodes nodes s a n d x at leaf h.are;
      finds = leaves_find nodes s a n d x at leaf found mid new h.are h.finds differ
          (λ q. first q ∙ ap (λ z. cond (same_key (s, d.old.0) q) (Some place) z) (kept q) ∙ ap (λ z. cond (same_key (s, d.old.0) q) (Some z) (found q)) f)
          (λ q. second q ∙ ap (λ z. cond (same_key (s, d.new.0) q) (Some (z + 1)) (mid q)) f);
    }))
