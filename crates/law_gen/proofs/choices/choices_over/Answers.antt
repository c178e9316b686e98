use Rattle.std.proofs.Common.{◌≡◌, ◌<◌, ◌≤◌, List, [], ◌∷◌, ◌++◌, true, false, length, slice_index_or, sym, ap, subst, ◌∙◌, refl}
use Rattle.std.specs.List.{filter}
use Rattle.law_sig.specs.Signature.{constructors}
use Rattle.law_draws.specs.Draws.{fits_over}
use Rattle.law_sig.specs.Lists.{Each}
use Rattle.law_sig.specs.declared.tree.SortId.{SortId}
use Rattle.law_sig.specs.declared.tree.SymId.{SymId}
use Rattle.law_ids.proofs.Reading.{each_at}
use Rattle.law_ids.proofs.BankFacts.{take_all}
use Rattle.law_draws.proofs.ChoiceFacts.{IsMaker, makers, there_within, sorts_declared, found_next, at_place}
use Rattle.law_gen.proofs.choices.choices_over.Goals as goal
use Rattle.law_gen.proofs.choices.choices_over.Goals.{then-fits+in_ok-push, else-fits}

abbrev none : SymId
none = record { 0 = 0 }

pub args_of-requires : goal.args_of-requires
args_of-requires c =
    let within : c.loop-sym.sym-index < length (constructors c.args.sig.now c.args.sort) = subst (λ l. c.loop-sym.sym-index < length l) c.constructors-sym-items.ensures c.loop-sym-test.true in
    let maker = each_at (IsMaker c.args.sig.now.symbols c.args.sort) (constructors c.args.sig.now c.args.sort) c.loop-sym.sym-index
    (slice_index_or (constructors c.args.sig.now c.args.sort) c.loop-sym.sym-index none) (makers c.args.sig.now c.args.sort) within
    (at_place (constructors c.args.sig.now c.args.sort) c.loop-sym.sym-index none (slice_index_or (constructors c.args.sig.now c.args.sort) c.loop-sym.sym-index none) within) in
    subst (λ l. (slice_index_or l c.loop-sym.sym-index none).0 < length c.args.sig.now.symbols) (sym c.constructors-sym-items.ensures)
    (there_within c.args.sig.now.symbols (slice_index_or (constructors c.args.sig.now c.args.sort) c.loop-sym.sym-index none).0 maker.symbol maker.there)

pub fits-requires : goal.fits-requires
fits-requires c = subst (λ n. Each (λ (s : SortId). s.0 < n) c.args_of.result.now) (sym c.requires.below)
    (sorts_declared c.args.sig.now c.requires.well_formed (slice_index_or c.constructors-sym-items.result.now c.loop-sym.sym-index none) c.args_of.result.now c.args_of.ensures).0

pub loop-sym-init : goal.loop-sym-init
loop-sym-init c height is = c.new-found.ensures

nothing_more : {A : Type 0} (xs : List A) → xs ≡ xs ++ []
nothing_more [] = refl
nothing_more (x ∷ xs) = ap (λ l. x ∷ l) (nothing_more xs)

pub loop-sym-preserved : goal.loop-sym-preserved
loop-sym-preserved c height is =
    let sym_at : SymId = slice_index_or c.constructors-sym-items.result.now c.loop-sym.sym-index none in
    let among = constructors c.args.sig.now c.args.sort in
    let within : c.loop-sym.sym-index < length among = subst (λ l. c.loop-sym.sym-index < length l) c.constructors-sym-items.ensures c.loop-sym-test.true in
    let at : sym_at ≡ slice_index_or among c.loop-sym.sym-index sym_at =
    ap (λ l. slice_index_or l c.loop-sym.sym-index none) c.constructors-sym-items.ensures ∙ at_place among c.loop-sym.sym-index none sym_at within in
    elim c.if-fits.branch [
      | then-fits+in_ok-push w ↦ found_next c.args.sig.now c.requires.well_formed height c.args.below.now among c.loop-sym.found c.if-fits.found c.loop-sym.sym-index sym_at
          c.args_of.result.now true is within at c.args_of.ensures w.if-fits.ensures (c.loop-sym.invariant height is) (w.found-is ∙ w.in_ok-push.ensures.ok)
      | else-fits w ↦ found_next c.args.sig.now c.requires.well_formed height c.args.below.now among c.loop-sym.found c.if-fits.found c.loop-sym.sym-index sym_at
          c.args_of.result.now false is within at c.args_of.ensures w.if-fits.ensures (c.loop-sym.invariant height is) (w.found-is ∙ nothing_more c.loop-sym.found)
    ]

pub returns : goal.returns
returns c height is =
    let past : length (constructors c.args.sig.now c.args.sort) ≤ c.loop-sym.sym-index = subst (λ l. length l ≤ c.loop-sym.sym-index) c.constructors-sym-items.ensures c.loop-sym-test.false in
    c.loop-sym.invariant height is ∙ ap (filter (fits_over c.args.sig.now height)) (take_all (constructors c.args.sig.now c.args.sort) c.loop-sym.sym-index past)
