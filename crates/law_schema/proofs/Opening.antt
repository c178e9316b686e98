-- The instances of a schema that is spread now.
use Rattle.std.proofs.Common.{◌≡◌, ℕ, zero, suc, List, [], ◌∷◌, ◌++◌, Some, None, slice_get, slice_index_or, refl, sym, ap, ap₂, ◌∙◌, subst}
use denote.Bor.{Bor}
use Rattle.law_sig.specs.declared.tree.SortId.{SortId}
use Rattle.law_sig.specs.declared.tree.Tree.{Tree}
use Rattle.law_sig.specs.declared.tree.Tree.TheVariants.{App}
use Rattle.law_laws.proofs.BodyFacts.{some_is, none_is}
use Rattle.law_bank.specs.declared.node.Node.{Node}
use Rattle.law_bank.specs.Terms.{tree_of, trees_of}
use Rattle.law_listing.specs.declared.pick.Pick.{Pick}
use Rattle.law_listing.specs.Choices.{Picked}
use Rattle.law_listing.proofs.Rising.{at_place}
use Rattle.law_schema.specs.declared.rules.Rule.{Rule}
use Rattle.law_schema.specs.declared.rules.Rules.{Rules}
use Rattle.law_schema.specs.declared.stock.Entry.{Entry}
use Rattle.law_schema.specs.declared.stock.Spread.{Spread}
use Rattle.law_schema.specs.declared.walk.Stand.{Stand}
use Rattle.law_schema.specs.declared.walk.Stand.TheVariants.{Nowhere, Before, At}
use Rattle.law_schema.specs.declared.walk.Walk.{Walk}
use Rattle.law_schema.specs.declared.places.Application.{Application}
use Rattle.law_schema.specs.Columns.{Columns, bucket, lists_below, present, entries_of, numbers_in}
use Rattle.law_schema.specs.Spreads.{schema_terms, schema_trees, live_counts, AreNumbered}
use Rattle.law_schema.specs.Walks.{done_at, rows_done, IsWalk}
use Rattle.law_schema.specs.Places.{IsApplied}
use Rattle.law_schema.specs.Blocks.{AreLinked, IsLastAt, AreFillings}
use Rattle.law_schema.proofs.ColumnFacts.{pick_is}
use Rattle.law_schema.proofs.Making.{rule_read}

tree_got : (bs : List (Bor Node)) (n : ℕ) (b : Bor Node) → slice_get bs n ≡ Some b → slice_get (trees_of bs) n ≡ Some (tree_of b.now)
tree_got [] n b e = none_is b e
tree_got (x ∷ bs) zero b e = ap (λ (z : Bor Node). Some (tree_of z.now)) (some_is x b e)
tree_got (x ∷ bs) (suc n) b e = tree_got bs n b e

numbered_is : (spreads : List Spread) (columns : Columns) → AreLinked spreads columns → (w : ℕ) (ss : List SortId) (row : List Pick) (cs : List Tree) → Picked (lists_below columns w ss) row cs
    → AreNumbered (schema_trees spreads) (numbers_in (entries_of columns ss row)) cs
numbered_is spreads columns linked w [] [] [] h = tt
numbered_is spreads columns linked w [] [] (c ∷ cs) h = absurd h
numbered_is spreads columns linked w [] (p ∷ row) cs h = absurd h
numbered_is spreads columns linked w (s ∷ ss) [] cs h = absurd h
numbered_is spreads columns linked w (s ∷ ss) (p ∷ row) [] h = absurd h
numbered_is spreads columns linked w (s ∷ ss) (p ∷ row) (c ∷ cs) h =
    let (e, got, same) = pick_is columns w s p c h.0 in
    subst (λ o. AreNumbered (schema_trees spreads) (numbers_in (present o ++ entries_of columns ss row)) (c ∷ cs)) (sym got)
    (tree_got (schema_terms spreads) e.number e.schema (linked s p.weight e (at_place e (bucket columns s p.weight) p.at got)) ∙ ap Some same, numbered_is spreads columns linked w ss row cs h.1)

last_fresh : (s : Stand) (Of : List Pick → Tree → Type 0) (row : List Pick) → done_at s row ≡ [] → IsLastAt s Of row None
last_fresh Nowhere Of row e = refl
last_fresh Before Of row e = refl
last_fresh At Of row e = absurd (cc e)

pub fillings_started : (rules : Rules) (columns : Columns) (spreads : List Spread) (a : Application) (t : Tree) (r : Rule) (numbers : List ℕ) (walk : Walk) → r ≡ slice_index_or rules.symbols a.rule r
    → IsApplied rules columns a a.walk.row.items t → AreLinked spreads columns → numbers ≡ numbers_in (entries_of columns r.args a.walk.row.items) → walk.choices ≡ live_counts spreads numbers → walk.weight ≡ 0
    → IsWalk walk → rows_done walk ≡ [] → AreFillings spreads t None (record { symbol = r.symbol; numbers = numbers; walk = walk })
fillings_started rules columns spreads a t r numbers walk read at linked numbers_are choices_are weight_is walk_is fresh =
    let (args, picked, e) = at.term_is in
    let same = rule_read rules.symbols a.rule r at.rule at.rule_is read in
    record {
      args = args;
      schema_is = e ∙ ap (λ (z : Rule). App z.symbol args) same;
      numbered = subst (λ l. AreNumbered (schema_trees spreads) l args) (ap (λ (z : Rule). numbers_in (entries_of columns z.args a.walk.row.items)) same ∙ sym numbers_are)
          (numbered_is spreads columns linked a.weight at.rule.args a.walk.row.items args picked);
      choices_are = choices_are;
      weight_is = weight_is;
      walk_is = walk_is;
      last = last_fresh walk.stand _ walk.row.items fresh;
    }

-- what the code hands on
pub numbers_are : (columns : Columns) (ss ss_read : List SortId) (row row_read : List Pick) (new found read : List Entry) (numbers : List ℕ) → ss_read ≡ ss → row_read ≡ row → new ≡ []
    → found ≡ new ++ entries_of columns ss_read row_read → read ≡ found → numbers ≡ numbers_in read → numbers ≡ numbers_in (entries_of columns ss row)
numbers_are columns ss ss_read row row_read new found read numbers ss_is row_is new_is found_is read_is numbers_is =
    numbers_is ∙ ap numbers_in (read_is ∙ found_is ∙ ap (λ l. l ++ entries_of columns ss_read row_read) new_is ∙ ap₂ (entries_of columns) ss_is row_is)
