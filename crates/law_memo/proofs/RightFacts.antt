-- Entries stay right, as the bank grows and as the memo changes, and what a right entry answers.
use Rattle.std.proofs.Common.{◌≡◌, ℕ, ◌<◌, ◌≤◌, ◌&&◌, Bool, true, false, eqb, true≢false, List, [], ◌∷◌, Contains, Option, Some, None, IfSome, Result, Ok, Err, OnOk, OnErr, ⊎_elim, refl, sym, ap, eq-eqb, ◌∙◌, subst, subst₂, arith, length-append}
use Rattle.std.proofs.Math.ListN.{get_or-append}
use Rattle.std.proofs.lemmas.Bool.Decides.{nat_tests}
use Rattle.std.specs.Map.{lookup}
use lib.Pointwise.{pointwise, pointwise_decides}
use Rattle.lru.specs.LruCache.{LruCache, promoted, put_entries}
use Rattle.lru.proofs.CallerLemmas.{Contains-lookup, Contains-promoted, Contains-put_entries}
use Rattle.law_sig.specs.Evaluate.{ap as applied}
use Rattle.law_sig.specs.Relation.{Applies}
use Rattle.law_sig.specs.declared.tree.SymId.{SymId}
use Rattle.law_sig.specs.declared.tree.Tree.{Tree}
use Rattle.law_sig.specs.declared.parts.SigParts.{SigParts}
use Rattle.law_laws.proofs.Application.{ap_gives, gives_ap, costs_over, one_value}
use Rattle.law_ids.specs.declared.ids.ValueId.{ValueId}
use Rattle.law_ids.specs.Values.{IsOf, AreOf, no_tree, tree_of, trees_of, Grows}
use Rattle.law_memo.specs.declared.memo.Call.{Call}
use Rattle.law_memo.specs.declared.memo.Known.{Known}
use Rattle.law_memo.specs.Right.{IsRight, AreRight}

pub none_wrong : (parts : SigParts) (bank : List Tree) → AreRight parts bank []
none_wrong parts bank = record { each = λ e m. absurd (omega (arith, m.1)) }

-- As the bank grows

id_stays : (old new : List Tree) (v : ValueId) → Grows old new → IsOf old v → IsOf new v × (tree_of new v ≡ tree_of old v)
id_stays old new v grows held =
    (subst (λ bank. IsOf bank v) (sym grows.1) (omega (arith, length-append old grows.0)), ap (λ bank. tree_of bank v) grows.1 ∙ get_or-append old grows.0 no_tree v.0 held)

ids_stay : (old new : List Tree) (ids : List ValueId) → Grows old new → AreOf old ids → AreOf new ids × (trees_of new ids ≡ trees_of old ids)
ids_stay old new [] grows held = (tt, refl)
ids_stay old new (v ∷ ids) grows held =
    let first = id_stays old new v grows held.0 in
    let others = ids_stay old new ids grows held.1 in
    ((first.0, others.0), cc (first.1, others.1))

stays : (parts : SigParts) (old new : List Tree) (f : SymId) (args : List ValueId) (known : Known) → Grows old new
    → IsRight parts old f args known → IsRight parts new f args known
stays parts old new f args known grows right =
    let kept = ids_stay old new args grows right.args_held in
    let value = id_stays old new known.value grows right.value_held in
    record {
      args_held = kept.0;
      value_held = value.0;
      applies = subst₂ (λ ts t. Applies parts f ts t known.cost) (sym kept.1) (sym value.1) right.applies;
    }

pub all_stay : (entries : List (Call × Known)) (parts : SigParts) (old new : List Tree) → Grows old new → AreRight parts old entries → AreRight parts new entries
all_stay entries parts old new grows right = record { each = λ e m. stays parts old new e.0.sym e.0.args.items e.1 grows (right.each e m) }

-- Calls

abbrev same_call : Call → Call → Bool
same_call a b = eqb a.sym.0 b.sym.0 && pointwise (λ (x y : ValueId). eqb x.0 y.0) a.args.items b.args.items

and_left : (s t : Bool) → (s && t) ≡ true → s ≡ true
and_left true t h = refl
and_left false t h = h

and_right : (s t : Bool) → (s && t) ≡ true → t ≡ true
and_right true t h = h
and_right false t h = absurd (true≢false (sym h))

same_number : (m n : ℕ) → eqb m n ≡ true → m ≡ n
same_number m n h = grind (arith, nat_tests)

same_value : (x y : ValueId) → (eqb x.0 y.0 ≡ true → x ≡ y) × (x ≡ y → eqb x.0 y.0 ≡ true)
same_value x y = (λ h. ap (λ n. let v : ValueId = record { 0 = n } in v) (same_number x.0 y.0 h), λ e. eq-eqb x.0 y.0 (ap (λ (z : ValueId). z.0) e))

same : (a b : Call) → same_call a b ≡ true → (a.sym ≡ b.sym) × (a.args.items ≡ b.args.items)
same a b h = (
  ap (λ n. let f : SymId = record { 0 = n } in f) (same_number a.sym.0 b.sym.0 (and_left _ _ h)),
  (pointwise_decides same_value a.args.items b.args.items).0 (and_right (eqb a.sym.0 b.sym.0) _ h),
)

-- As the memo changes

-- `cache` is what the memo `memo` has inside

pub found : (call : Call) (cache memo : LruCache Call Known) (o : Option Known) → cache ≡ memo → o ≡ lookup (same_call call) cache.entries
    → IfSome o (λ known. (parts : SigParts) (bank : List Tree) → AreRight parts bank memo.entries → IsRight parts bank call.sym call.args.items known)
found call cache memo None view e = tt
found call cache memo (Some known) view e = λ parts bank right.
    let (kept, contains, is) = Contains-lookup (same_call call) cache.entries known (sym e) in
    let (symbols, args) = same call kept is in
    subst₂ (λ f ids. IsRight parts bank f ids known) (sym symbols) (sym args)
    ((subst (λ (m : LruCache Call Known). AreRight parts bank m.entries) (sym view) right).each (kept, known) contains)

pub after_get : (call : Call) (cache memo now : LruCache Call Known) → cache ≡ memo
    → now ≡ record { entries = promoted (same_call call) cache.entries; cap = cache.cap } → (parts : SigParts) (bank : List Tree)
    → AreRight parts bank memo.entries → AreRight parts bank now.entries
after_get call cache memo now view is parts bank right =
    let before = subst (λ (k : LruCache Call Known). AreRight parts bank k.entries) (sym view) right in
    record { each = λ e m. before.each e (Contains-promoted (same_call call) cache.entries e (subst (λ (k : LruCache Call Known). Contains k.entries e) is m)) }

put : (cache : LruCache Call Known) (call : Call) (known : Known) (parts : SigParts) (bank : List Tree)
    → AreRight parts bank cache.entries → IsRight parts bank call.sym call.args.items known → AreRight parts bank (put_entries same_call cache call known)
put cache call known parts bank right new = record {
  each = λ e m. ⊎_elim
      (λ h. right.each e h)
      (λ h. subst (IsRight parts bank e.0.sym e.0.args.items) (sym h.0) (⊎_elim
      (λ is. subst (λ (k : Call). IsRight parts bank k.sym k.args.items known) (sym is) new)
      (λ kept. let (symbols, args) = same call e.0 kept.2 in subst₂ (λ f ids. IsRight parts bank f ids known) symbols args new)
      h.1))
      (Contains-put_entries same_call cache call known e m);
}

pub after_put : {T E : Type 0} (cache memo now : LruCache Call Known) (call : Call) (known : Known) (r : Result T E) → cache ≡ memo
    → OnOk r (now ≡ record { entries = put_entries same_call cache call known; cap = cache.cap }) → OnErr r (now ≡ cache) → (parts : SigParts) (bank : List Tree)
    → AreRight parts bank memo.entries → IsRight parts bank call.sym call.args.items known → AreRight parts bank now.entries
after_put cache memo now call known r view ok err parts bank right new =
    let P : LruCache Call Known → Type 0 = λ k. AreRight parts bank k.entries in
    let before = subst P (sym view) right in
    by r ok err before (put cache call known parts bank before new)
  where
    by : {T E : Type 0} (r : Result T E) → OnOk r (now ≡ record { entries = put_entries same_call cache call known; cap = cache.cap }) → OnErr r (now ≡ cache)
        → AreRight parts bank cache.entries → AreRight parts bank (put_entries same_call cache call known) → AreRight parts bank now.entries
    by (Ok x) ok err before after = subst (λ (k : LruCache Call Known). AreRight parts bank k.entries) (sym ok) after
    by (Err x) ok err before after = subst (λ (k : LruCache Call Known). AreRight parts bank k.entries) (sym err) before

-- What an entry answers

pub hit : (parts : SigParts) (bank : List Tree) (f : SymId) (kept args : List ValueId) (known : Known) (budget : ℕ) → kept ≡ args
    → IsRight parts bank f kept known → known.cost ≤ budget
    → applied parts f (trees_of bank args) budget ≡ Some (record { value = tree_of bank known.value; cost = known.cost })
hit parts bank f kept args known budget same right h = ap (λ ids. applied parts f (trees_of bank ids) budget) (sym same) ∙ gives_ap parts budget right.applies h

pub hit_over : (parts : SigParts) (bank : List Tree) (f : SymId) (kept args : List ValueId) (known : Known) (budget : ℕ) → kept ≡ args
    → IsRight parts bank f kept known → budget < known.cost → applied parts f (trees_of bank args) budget ≡ None
hit_over parts bank f kept args known budget same right h =
    ap (λ ids. applied parts f (trees_of bank ids) budget) (sym same)
    ∙ costs_over parts f (trees_of bank kept) budget (λ v n a. let cost = (one_value parts a right.applies).1 in omega arith)

pub is_right : (parts : SigParts) (old new : List Tree) (f : SymId) (args : List ValueId) (known : Known) (budget : ℕ) → Grows old new → AreOf old args → IsOf new known.value
    → applied parts f (trees_of old args) budget ≡ Some (record { value = tree_of new known.value; cost = known.cost }) → IsRight parts new f args known
is_right parts old new f args known budget grows held value is =
    let kept = ids_stay old new args grows held in
    record {
      args_held = kept.0;
      value_held = value;
      applies = subst (λ ts. Applies parts f ts (tree_of new known.value) known.cost) (sym kept.1) (ap_gives parts f (trees_of old args) budget _ is).0;
    }
