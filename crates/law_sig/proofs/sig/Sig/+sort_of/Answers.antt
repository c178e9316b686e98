use Rattle.std.proofs.Common.{◌≡◌, ◌+◌, ◌<◌, ◌&&◌, Some, true, false, length, map, drop, slice_get, slice_index_or, arith, sym, ap, ◌∙◌}
use Rattle.law_sig.specs.Signature.{has_sort, same_sorts, sort_of}
use Rattle.law_sig.specs.declared.tree.Tree.TheVariants.{App}
use Rattle.law_sig.specs.declared.parts.SigParts.{SigParts}
use Rattle.law_sig.proofs.SortFacts.{sort_by, other_length, at_place, at_end}
use Rattle.law_sig.proofs.sig.Sig.+sort_of.Goals as goal

pub returns-then-len-wanted : goal.returns-then-len-wanted
returns-then-len-wanted t c =
    sort_by c.args.self.now _ _ _ _ _ false c.in-App.is (c.in-Some.ensures.value ∙ ap (λ (p : SigParts). slice_get p.symbols c.in-App.head.0) c.self.view_is) c.args_of-wanted.ensures
    (other_length (sort_of c.args.self.now) c.in-App.args _ (λ e. c.if-len-wanted.true (c.len-in-App.ensures ∙ e)))

pub returns-then-not-is_sort : goal.returns-then-not-is_sort
returns-then-not-is_sort t c =
    let f = sort_of c.args.self.now in
    let items = c.as_slice-arg-items.result.now in
    let wanted = c.args_of-wanted.result.now in
    let w = slice_index_or wanted c.loop-at.at (record { 0 = 0 }) in
    let unlike : has_sort (f c.arg-item.result) w ≡ false = ap (λ s. has_sort s w) (sym c.sort_of.ensures) ∙ sym c.is_sort.ensures ∙ c.if-not-is_sort.true in
    let lengths : length items ≡ length wanted = ap length c.as_slice-arg-items.ensures ∙ sym c.len-in-App.ensures ∙ c.if-len-wanted.false in
    let fits : c.loop-at.at < length wanted = omega arith in
    sort_by c.args.self.now _ _ _ _ _ false (c.in-App.is ∙ ap (App c.in-App.head) (sym c.as_slice-arg-items.ensures)) (c.in-Some.ensures.value ∙ ap (λ (p : SigParts). slice_get p.symbols c.in-App.head.0) c.self.view_is) c.args_of-wanted.ensures
    (sym c.loop-at.invariant ∙ at_place f items wanted _ _ (record { 0 = 0 }) c.loop-at-test.true fits c.arg-item.is
    ∙ ap (λ b. b && same_sorts (drop (c.loop-at.at + 1) (map f items)) (drop (c.loop-at.at + 1) wanted)) unlike)

pub loop-at-preserved : goal.loop-at-preserved
loop-at-preserved t c =
    let f = sort_of c.args.self.now in
    let items = c.as_slice-arg-items.result.now in
    let wanted = c.args_of-wanted.result.now in
    let w = slice_index_or wanted c.loop-at.at (record { 0 = 0 }) in
    let like : has_sort (f c.arg-item.result) w ≡ true = ap (λ s. has_sort s w) (sym c.sort_of.ensures) ∙ sym c.is_sort.ensures ∙ c.if-not-is_sort.false in
    let lengths : length items ≡ length wanted = ap length c.as_slice-arg-items.ensures ∙ sym c.len-in-App.ensures ∙ c.if-len-wanted.false in
    let fits : c.loop-at.at < length wanted = omega arith in
    sym (at_place f items wanted _ _ (record { 0 = 0 }) c.loop-at-test.true fits c.arg-item.is
    ∙ ap (λ b. b && same_sorts (drop (c.loop-at.at + 1) (map f items)) (drop (c.loop-at.at + 1) wanted)) like)
    ∙ c.loop-at.invariant

pub returns-after-loop-at : goal.returns-after-loop-at
returns-after-loop-at t c =
    let f = sort_of c.args.self.now in
    let items = c.as_slice-arg-items.result.now in
    let wanted = c.args_of-wanted.result.now in
    let lengths : length items ≡ length wanted = ap length c.as_slice-arg-items.ensures ∙ sym c.len-in-App.ensures ∙ c.if-len-wanted.false in
    ap Some c.result_of.ensures
    ∙ sort_by c.args.self.now _ _ _ _ _ true (c.in-App.is ∙ ap (App c.in-App.head) (sym c.as_slice-arg-items.ensures)) (c.in-Some.ensures.value ∙ ap (λ (p : SigParts). slice_get p.symbols c.in-App.head.0) c.self.view_is) c.args_of-wanted.ensures
    (sym c.loop-at.invariant ∙ at_end f items wanted _ c.loop-at-test.false lengths)
