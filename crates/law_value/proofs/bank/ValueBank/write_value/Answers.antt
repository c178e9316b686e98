use Rattle.std.proofs.Common.{◌<◌, List, subst, sym, ap, ◌∙◌}
use Rattle.law_sig.specs.Lists.{Each}
use Rattle.law_ids.specs.Values.{tree_of, is_plain}
use Rattle.law_value.specs.Cells.{AreCells}
use Rattle.law_sig.specs.declared.tree.Tree.{Tree}
use Rattle.law_value.proofs.ReadFacts.{plain_of}
use Rattle.law_value.specs.Writing.{Piece, IsPartOf, piece_of, pieces, steps_of}
use Rattle.law_ids.proofs.Tops.{pushed}
use Rattle.law_value.proofs.WriteFacts.{writing_on, written}
use Rattle.law_value.proofs.bank.ValueBank.write_value.Goals as goal

pub write_part-requires-clause-part : goal.write_part-requires-clause-part
write_part-requires-clause-part c = (subst (Each (IsPartOf c.args.self.now)) (pushed (λ p. p) _ _ _ c.in-Some.ensures.items) c.loop-part.invariant.held).0

pub write_part-requires-clause-held : goal.write_part-requires-clause-held
write_part-requires-clause-held c = (subst (Each (IsPartOf c.args.self.now)) (pushed (λ p. p) _ _ _ c.in-Some.ensures.items) c.loop-part.invariant.held).1

pub loop-part-smaller : goal.loop-part-smaller
loop-part-smaller c =
    subst (λ (l : List Piece). steps_of (pieces c.args.self.now c.write_part.new.left.items) < steps_of l) (sym (pushed (piece_of c.args.self.now) _ _ _ c.in-Some.ensures.items))
    c.in_ok-write_part.ensures.falls

pub loop-part-preserved : goal.loop-part-preserved
loop-part-preserved c = writing_on c.args.self.now (tree_of c.args.self.now c.args.id) _ _ _ _ _ _ c.loop-part.invariant c.in-Some.ensures.items c.in_ok-write_part.ensures

pub returns-clause-tree : goal.returns-clause-tree
returns-clause-tree c = written c.args.self.now (tree_of c.args.self.now c.args.id) _ _ _ _ c.loop-part.invariant (sym c.loop-part.left.ok.0 ∙ c.in_default-pop.ensures.cases.0) c.in-Some-pop.ensures.items

pub returns-clause-plain : goal.returns-clause-plain
returns-clause-plain c =
    let tree = written c.args.self.now (tree_of c.args.self.now c.args.id) _ _ _ _ c.loop-part.invariant (sym c.loop-part.left.ok.0 ∙ c.in_default-pop.ensures.cases.0) c.in-Some-pop.ensures.items in
    ap is_plain tree ∙ plain_of c.args.self.now c.self.inside.cells.keys c.args.id
    (subst (λ (l : List Tree). AreCells c.self.inside.cells.keys l) c.self.view_is c.self.invariant) c.requires
