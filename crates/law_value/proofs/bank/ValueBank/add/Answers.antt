use Rattle.std.proofs.Common.{◌≡◌, ◌<◌, ◌^◌, ◌-◌, ◌∙◌, length, List, min, subst, sym, ap}
use Rattle.law_sig.specs.Trees.{node_count}
use Rattle.law_sig.specs.declared.tree.Tree.TheVariants.{App}
use Rattle.law_ids.specs.declared.ids.ValueId.{ValueId}
use Rattle.law_value.specs.declared.bank.Cell.{Cell}
use Rattle.law_ids.specs.Values.{AreOf, trees_of, Adds}
use Rattle.law_value.specs.Cells.{AreCells, trees, tree_in}
use Rattle.law_ids.proofs.BankFacts.{node_count-App}
use Rattle.law_value.proofs.CellFacts.{IsPut, put}
use Rattle.law_value.proofs.bank.ValueBank.add.Goals as goal

pub invariant_of-self : goal.invariant_of-self
invariant_of-self c = subst (λ (l : List Cell). AreCells l (trees l)) (sym c.in_default-insert_full.ensures.err) c.self.invariant

abbrev cell_of : goal.In-Ok-insert_full → Cell
cell_of c = record { sym = c.args.sym; fields = c.in-Ok.fields; nodes = c.nodes_over-nodes.result }

tree_is : (c : goal.In-Ok-insert_full) → tree_in c.args.self.now (cell_of c) ≡ App c.args.sym (trees_of c.args.self.now c.args.fields.now)
tree_is c = ap (λ ids. App c.args.sym (trees_of c.args.self.now ids)) c.in-Ok.ensures.items

is_put : (c : goal.In-Ok-insert_full) → IsPut c.args.self.now c.insert_full.new.self.keys (cell_of c) c.in-Ok-insert_full.at
is_put c = put c.args.self.now c.self.inside.cells.keys c.insert_full.new.self.keys (cell_of c) c.in-Ok-insert_full.at c.self.view_is c.self.invariant
    (record {
      held = subst (AreOf c.args.self.now) (sym c.in-Ok.ensures.items) c.requires.held;
      few = subst (λ (l : List ValueId). length l < 2 ^ 32) (sym c.in-Ok.ensures.items) c.requires.few;
      nodes = c.nodes_over-nodes.ensures ∙ ap (λ n. min n (2 ^ 64 - 1)) (sym (node_count-App c.args.sym (trees_of c.args.self.now c.args.fields.now)) ∙ ap node_count (sym (tree_is c)));
    })
    c.in-Ok-insert_full.ensures.keys c.in-Ok-insert_full.ensures.stored

pub invariant_of-self-2 : goal.invariant_of-self-2
invariant_of-self-2 c = (is_put c).are

pub returns-clause-id : goal.returns-clause-id
returns-clause-id c = (is_put c).within

pub returns-clause-tree : goal.returns-clause-tree
returns-clause-tree c = (is_put c).tree ∙ tree_is c

pub returns-clause-adds : goal.returns-clause-adds
returns-clause-adds c = subst (Adds c.args.self.now (trees c.insert_full.new.self.keys)) (tree_is c) (is_put c).adds

pub returns-clause-grows : goal.returns-clause-grows
returns-clause-grows c = (is_put c).grows

pub returns-clause-shared : goal.returns-clause-shared
returns-clause-shared c = (is_put c).are.shared
