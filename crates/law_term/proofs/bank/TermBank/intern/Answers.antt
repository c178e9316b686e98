use Rattle.std.proofs.Common.{◌≡◌, [], ◌∷◌, subst, sym, ap, ◌∙◌}
use Rattle.std.specs.Option.{option_copied}
use Rattle.std.proofs.lemmas.List.{length-map}
use Rattle.indexmap.proofs.CallerLemmas.{insert_entry-new}
use Rattle.law_laws.proofs.ListFacts.{of_each, in_map}
use denote.Bor.{Bor}
use Rattle.law_bank.specs.declared.node.Node.{Node, out-Node}
use Rattle.law_sig.specs.Lists.{Each}
use Rattle.law_rewriting.specs.Heads.{head_sort}
use Rattle.law_bank.specs.Terms.{tree_at, tree_of, trees_of, ids_of}
use Rattle.law_bank.specs.Bank.{Terms, AllOf, IsOf, IsShared, sorts_by, with_trees}
use Rattle.law_bank.proofs.BankFacts.{key_tree}
use Rattle.law_term.specs.Inside.{Entry, nodes_of, terms_in}
use Rattle.law_term.proofs.Interning.{found, found_key, absent, fresh, one_key, same_key, IsKeyed, terms, IsNew, new_tree, IsPut, put}
use Rattle.law_term.proofs.bank.TermBank.intern.Goals as goal

pub returns-in-Some-clause-tree : goal.returns-in-Some-clause-tree
returns-in-Some-clause-tree c =
    let f = found (same_key c.in_ok-key.key) c.self.inside.nodes.entries c.in-Some.known.now (sym c.get.ensures.value ∙ ap option_copied c.in-Some.is) in
    let k = found_key c.in_ok-key.key c.self.inside.nodes.entries c.self.invariant.keyed c.in-Some.known.now f in
    let same = one_key (out-Node c.in-Some.known.now.now).head c.args.head _ _ (k ∙ c.in_ok-key.ensures) in
    let held : IsOf c.args.self.now c.in-Some.known.now.now = subst (λ b. IsOf b c.in-Some.known.now.now) c.self.view_is
    (of_each (λ (b : Bor Node). IsOf (terms_in c.self.inside) b.now) (in_map (λ (e : Entry). e.1) f.in_entries) c.self.invariant.held) in
    key_tree c.args.self.now c.in-Some.known.now.now held c.args.head c.args.args.now c.requires.held same.0 same.1

is_new : (c : goal.In-Ok) → IsNew c.self.inside.sorts c.self.inside.weights (nodes_of c.self.inside.nodes.entries) c.args.head c.args.args.now c.in_ok-made.made
is_new c = record {
  held = c.self.invariant.held;
  shared = c.self.invariant.shared;
  fits = c.requires.fits;
  over = subst (λ z. AllOf z c.args.args.now) (sym c.self.view_is) c.requires.held;
  id = c.in_ok-made.ensures.id ∙ c.len.ensures.len ∙ sym (length-map c.self.inside.nodes.entries (λ (e : Entry). e.1));
  head = c.in_ok-made.ensures.head_is;
  args = c.in_ok-made.ensures.args_are;
  size = c.in_ok-made.ensures.size ∙ c.size_over.ensures c.args.self.now c.requires.held;
  weight = λ parts e. c.in_ok-made.ensures.weight ∙ c.weight_of.ensures parts (e ∙ ap (λ (b : Terms). b.weights) c.self.view_is);
  sort = c.in_ok-made.ensures.sort ∙ c.sort_of.ensures (trees_of c.args.args.now) ∙ ap (λ (b : Terms). head_sort (sorts_by b.sorts) (tree_at c.args.head (trees_of c.args.args.now))) (sym c.self.view_is);
  fresh = fresh c.in_ok-key.key c.args.head (ids_of c.args.args.now) c.in_ok-key.ensures c.self.inside.nodes.entries c.self.invariant.keyed
      (absent (same_key c.in_ok-key.key) c.self.inside.nodes.entries (sym c.get.ensures.value ∙ ap option_copied c.in_default.is));
}

is_put : (c : goal.In-Ok) → IsPut c.self.inside.sorts c.self.inside.weights c.self.inside.nodes.entries c.insert.new.self.entries c.args.head c.args.args.now c.in_ok-made.made
is_put c = put c.self.inside.sorts c.self.inside.weights c.self.inside.nodes.entries c.insert.new.self.entries c.in_ok-key.key c.args.head c.args.args.now c.in_ok-made.made (is_new c)
    c.in_ok-key.ensures c.self.invariant.keyed
    (c.in-Ok.ensures.entries ∙ insert_entry-new same_key c.self.inside.nodes c.in_ok-key.key c.in_ok-made.made (sym c.get.ensures.value ∙ ap option_copied c.in_default.is))

pub invariant_of-self : goal.invariant_of-self
invariant_of-self c =
    let is : c.insert.new.self.entries ≡ c.self.inside.nodes.entries = c.in_default-insert.ensures.err in
    record {
      held = subst (λ es. AllOf (terms c.self.inside.sorts c.self.inside.weights (nodes_of es)) (nodes_of es)) (sym is) c.self.invariant.held;
      shared = subst (λ es. IsShared (terms c.self.inside.sorts c.self.inside.weights (nodes_of es))) (sym is) c.self.invariant.shared;
      keyed = subst (Each IsKeyed) (sym is) c.self.invariant.keyed;
    }

pub invariant_of-self-2 : goal.invariant_of-self-2
invariant_of-self-2 c = let p = is_put c in record { held = p.held; shared = p.shared; keyed = p.keyed }

pub returns-clause-tree : goal.returns-clause-tree
returns-clause-tree c = new_tree _ _ _ _ _ _ (is_new c)

pub returns-clause-held : goal.returns-clause-held
returns-clause-held c = (is_put c).is_of

pub returns-clause-grows : goal.returns-clause-grows
returns-clause-grows c = (tree_of c.in_ok-made.made.now ∷ [], (is_put c).grows ∙ ap (λ b. with_trees b (tree_of c.in_ok-made.made.now ∷ [])) c.self.view_is)

pub returns-clause-shared : goal.returns-clause-shared
returns-clause-shared c = (is_put c).shared
