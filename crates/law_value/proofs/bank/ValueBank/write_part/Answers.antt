use Rattle.std.proofs.Common.{refl, subst, sym, ◌∷◌}
use Rattle.law_ids.specs.Tops.{tops}
use Rattle.law_ids.specs.Values.{tree_of}
use Rattle.law_value.specs.Writing.{piece_of, pieces, IsAdvanced}
use Rattle.law_value.specs.declared.bank.Part.{Part}
use Rattle.law_value.proofs.WriteFacts.{opened_on, on_both}
use Rattle.law_value.proofs.bank.ValueBank.write_part.Goals as goal

pub returns-in-Whole : goal.returns-in-Whole
returns-in-Whole c = on_both _ _ _ c.open.result
    (λ held opened. subst (λ (p : Part). IsAdvanced c.args.self.now (piece_of c.args.self.now p ∷ pieces c.args.self.now c.args.left.now.items) (tops (λ t. t) c.args.done.now.items)
    c.open.new.left.items (tops (λ t. t) c.args.done.now.items)) (sym c.in-Whole.is)
    (opened_on c.args.self.now (tree_of c.args.self.now c.in-Whole.id) (pieces c.args.self.now c.args.left.now.items) (pieces c.args.self.now c.open.new.left.items)
    (tops (λ t. t) c.args.done.now.items) c.open.new.left.items opened refl held))
    c.open.ensures.held c.open.ensures.pieces
