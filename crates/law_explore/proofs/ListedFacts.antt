-- The equations of the universe with the first places of its classes are the law list.
use Rattle.std.proofs.Common.{◌≡◌, ℕ, ◌<◌, ◌≤◌, IsSome, List, length, map, slice_index_or, sym, refl, ap, ap₂, ◌∙◌, subst, arith}
use Rattle.std.proofs.Math.Path.{subst₂}
use Rattle.std.proofs.lemmas.Option.{slice_get-get_or, slice_get_within}
use Rattle.law_sig.specs.Tests.{Pools, assignments, Agrees, IsDefined}
use Rattle.law_sig.specs.Counts.{term_count}
use Rattle.law_sig.specs.declared.tree.Tree.{Tree}
use Rattle.law_sig.specs.declared.parts.Equation.{Equation}
use Rattle.law_sig.specs.declared.parts.SigParts.{SigParts}
use Rattle.law_laws.proofs.Coverage.{covers}
use Rattle.law_laws.proofs.ListFacts.{each_map}
use Rattle.law_ids.specs.Values.{IsShared}
use Rattle.law_draws.specs.Draws.{pools_by}
use Rattle.law_testing.proofs.BothFacts.{both_long}
use Rattle.law_explore.specs.Universe.{IsUniverse}
use Rattle.law_explore.specs.Firsts.{AreFirsts}
use Rattle.law_explore.specs.Equations.{equations}
use Rattle.law_explore.specs.Refusals.{HasSmallValues}
use Rattle.law_explore.specs.Values.{HasVector}
use Rattle.law_explore.specs.Classes.{AreClasses}
use Rattle.law_sig.specs.Laws.{IsBackgroundTrue}
use Rattle.law_explore.specs.LawList.{AreLaws, IsLawListOf}
use Rattle.law_explore.proofs.LawFacts.{equations_are, has_least}
use Rattle.law_explore.proofs.VectorsTell.{own_class, classes_are, classes_tell, all_defined}

-- the terms, their classes and the first places, as they were made
pub record AreListed (parts : SigParts) (bank terms : List Tree) (classes firsts : List ℕ) : Type 0 where
  pub universe : IsUniverse parts terms
  pub shared : IsShared bank
  pub are : AreClasses parts bank terms classes
  pub are_firsts : AreFirsts classes firsts

module _ (parts : SigParts) (bank terms : List Tree) (classes firsts : List ℕ) (made : AreListed parts bank terms classes firsts) where
  one_each : length terms ≡ length classes
  one_each = both_long (HasVector parts bank made.are.vectors) terms classes made.are.have

  laws_are : AreLaws parts (equations terms firsts)
  laws_are =
      let own = own_class parts bank made.shared terms classes made.are in
      let same : map own terms ≡ classes = classes_are parts terms classes made.universe.ordered one_each in
      let are : AreFirsts (map own terms) firsts = subst (λ l. AreFirsts l firsts) (sym same) made.are_firsts in
      let tells = classes_tell parts bank made.shared terms classes made.are in
      let defined = all_defined parts bank made.shared terms classes made.are made.universe in
      let listed = equations_are parts (pools_by parts) terms own firsts made.universe tells are in
      record {
        listed = listed;
        covered = covers parts (pools_by parts) (equations terms firsts) listed defined (has_least parts (pools_by parts) terms own firsts made.universe tells are);
        defined = defined;
      }

  -- one first place for each term, and each is one of a term
  firsts_long : length firsts ≡ length terms
  firsts_long = made.are_firsts.one_each ∙ sym one_each

  firsts_within : (at : ℕ) → at < length firsts → slice_index_or firsts at 0 < length terms
  firsts_within at less =
      let i = made.are_firsts.each at (slice_index_or firsts at 0) (slice_get-get_or firsts at 0 less) in
      let within = slice_get_within classes (slice_index_or firsts at 0) i.class i.there in
      let long = one_each in
      omega arith

  -- the same of slices of them
  pub slice_long : (left : List Tree) (places : List ℕ) → left ≡ terms → places ≡ firsts → length places ≡ length left
  slice_long left places is_left is_places = ap length is_places ∙ firsts_long ∙ sym (ap length is_left)

  pub slice_within : (left : List Tree) (places : List ℕ) → left ≡ terms → places ≡ firsts → (at : ℕ) → at < length places → slice_index_or places at 0 < length left
  slice_within left places is_left is_places at less =
      subst₂ (λ l t. slice_index_or l at 0 < length t) (sym is_places) (sym is_left) (firsts_within at (subst (λ l. at < length l) is_places less))

  pub slice_laws : (left : List Tree) (places : List ℕ) (laws : List Equation) → left ≡ terms → places ≡ firsts → laws ≡ equations left places → AreLaws parts laws
  slice_laws left places laws is_left is_places is = subst (AreLaws parts) (sym (is ∙ ap₂ equations is_left is_places)) laws_are

-- the law list, where nothing refused
defined_right : (parts : SigParts) (pools : Pools) (e : Equation) → Agrees parts pools e.left e.right → IsDefined parts pools e.left × IsDefined parts pools e.right
defined_right parts pools e agrees = (agrees.defined, λ test within. subst IsSome (agrees.same test within) (agrees.defined test within))

pub law_list_is : (parts : SigParts) (terms : ℕ) (pools : Pools) (laws : List Equation) → assignments parts ≤ 4096 → term_count parts ≤ terms → HasSmallValues parts
    → IsBackgroundTrue parts (pools_by parts) → AreLaws parts laws → pools ≡ pools_by parts → IsLawListOf parts terms pools laws
law_list_is parts terms pools laws few short small holds are is =
    subst (λ p. IsLawListOf parts terms p laws) (sym is) (record {
      within = record {
        few_assignments = few;
        few_terms = short;
        small = small;
        background = holds;
        in_budget = record {
          terms = are.defined;
          sides = each_map (λ (e : Equation). Agrees parts (pools_by parts) e.left e.right)
              (λ (e : Equation). IsDefined parts (pools_by parts) e.left × IsDefined parts (pools_by parts) e.right) (defined_right parts (pools_by parts)) parts.settings.background holds;
        };
      };
      pools_are = refl;
      listed = are.listed;
      covered = are.covered;
    })
