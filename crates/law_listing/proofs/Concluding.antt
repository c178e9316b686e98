-- The laws, from the lemmas.
use Rattle.std.proofs.Common.{◌≡◌, ◌≢◌, ◌≤◌, [], ◌∷◌, ◌++◌, sym, ◌∙◌, subst, subst₂}
use Rattle.law_sig.specs.Lists.{In}
use Rattle.law_sig.specs.Lists.In.{here}
use Rattle.law_sig.specs.Trees.{schema_of}
use Rattle.law_sig.specs.Signature.{vars_at}
use Rattle.law_sig.specs.Order.{IsBefore}
use Rattle.law_sig.specs.Schemas.{IsInstance}
use Rattle.law_sig.specs.declared.tree.Tree.{Tree}
use Rattle.law_sig.specs.declared.tree.Tree.TheVariants.{Var, App}
use Rattle.law_sig.specs.declared.parts.SigParts.{SigParts}
use Rattle.law_laws.proofs.Considering.{considered_more, considered_fewer, instance_more, instance_fewer}
use Rattle.law_laws.proofs.Descents.{weighs_something}
use Rattle.law_laws.proofs.ListFacts.{of_each, in_left, in_right}
use Rattle.law_laws.proofs.Orders.{never_before_itself, before_chain}
use Rattle.law_laws.proofs.Walks.{exact_next, exact_spent}
use Rattle.law_listing.specs.Rows.{choices}
use Rattle.law_listing.specs.Columns.{IsBelow}
use Rattle.law_listing.specs.Listing.{over_each, considered, variables_of}
use Rattle.law_listing.specs.Laws.{ConsideredAreListed, InstancesAreListed, VariablesAreListed, RowsTellSchemas, RowsTellInstances, AreToldBy, IsExpectedBy, LaterSpreadsDontMatter, LaterLivesDontMatter}
use Rattle.law_listing.proofs.Rising.{rising_weaken}
use Rattle.law_listing.proofs.RowFacts.{in_each_below, each_below_in, each_below_rising}
use Rattle.law_listing.proofs.Transfer.{StandFor, spent_first, spent_next, first_first, next_next}
use Rattle.law_listing.proofs.Staging.{same_before, schemas_before}
use Rattle.law_listing.proofs.Applications.{considered_over, over_considered, over_schema, usable}
use Rattle.law_listing.proofs.Applications as apps
use Rattle.law_listing.proofs.Considered.{considered_sound, considered_complete, considered_rising}
use Rattle.law_listing.proofs.Instances.{in_instances, instances_in, instances_rising, instance_over, over_instance, instances_stand, vars_before, var_of_schema, var_instance}
use Rattle.law_listing.proofs.InstanceFacts.{only}

pub schemas_listed : ConsideredAreListed
schemas_listed parts spreads bound w items well schemas are within small = record {
  rising = rising_weaken (IsBelow parts) (IsBefore parts) (considered parts items w) (λ s t p q h. schemas_before parts s t (flat s p) (flat t q) h)
      (considered_rising parts (λ c. In c spreads) bound items well are w within);
  members = λ t. (
    λ at.
        let (over, weighs) = considered_sound parts (λ c. In c spreads) bound items well are w within t at in
        (over_considered parts spreads t over (subst (λ n. n ≤ parts.settings.size) (sym weighs) small), weighs),
    λ h. considered_complete parts (λ c. In c spreads) bound items well are w within t (considered_over parts spreads t h.0) h.1,
  );
}
  where
    flat : (t : Tree) → In t (considered parts items w) → schema_of t ≡ t
    flat t at = over_schema parts (λ c. In c spreads) t (λ c p. of_each (λ c. schema_of c ≡ c) p schemas) (considered_sound parts (λ c. In c spreads) bound items well are w within t at).0

pub instances_listed : InstancesAreListed
instances_listed parts lives f cs lists open' = record {
  rising = rising_weaken (IsBelow parts) (IsBefore parts) (over_each f (choices lists))
      (λ s t p q h. same_before parts s t
      ((in_instances parts (λ a. In a lives) f cs lists open' s p).schema ∙ sym (in_instances parts (λ a. In a lives) f cs lists open' t q).schema) h)
      (instances_rising parts (λ a. In a lives) f cs lists open');
  members = λ t. (
    λ at. over_instance parts lives (App f cs) t (in_instances parts (λ a. In a lives) f cs lists open' t at),
    λ is. instances_in parts (λ a. In a lives) f cs lists open' t (instance_over parts lives (App f cs) t is),
  );
}

pub variables_listed : VariablesAreListed
variables_listed parts lives sort declared small = record {
  rising = each_below_rising (IsBefore parts) (vars_at parts sort) (λ i. Var sort i ∷ []) (λ k less. (tt, tt)) (λ j k less within s t p q. subst₂ (IsBefore parts) (sym (only p)) (sym (only q)) (vars_before parts sort j k less));
  members = λ t. (
    λ at. let (k, less, p) = in_each_below (vars_at parts sort) (λ i. Var sort i ∷ []) at in subst (IsInstance parts lives (Var sort 0)) (sym (only p)) (var_instance parts lives sort k declared small less),
    λ is. let (k, e, less) = var_of_schema parts sort t is.schema is.sort is.bounded in subst (λ z. In z (variables_of parts sort)) (sym e) (each_below_in (vars_at parts sort) (λ i. Var sort i ∷ []) k less here),
  );
}

told : {A B : Type 0} (R : A → A → Type 0) (S : B → B → Type 0) (P : A → Type 0) (Q : B → Type 0) (Of : A → B → Type 0) → StandFor R S P Q Of → AreToldBy R S P Q Of
told R S P Q Of s = record {
  stands = s.holds;
  none = spent_first R S P Q Of s;
  first = first_first R S P Q Of s;
  last = spent_next R S P Q Of s;
  next = next_next R S P Q Of s;
}

pub schemas_told : RowsTellSchemas
schemas_told parts spreads bound w columns f symbol well schemas are within small is explored heavy =
    told _ _ _ _ _ (apps.stands parts spreads bound columns schemas are w f symbol (usable parts w f symbol well is explored heavy) within small)

pub instances_told : RowsTellInstances
instances_told parts lives f cs lists open' = told _ _ _ _ _ (instances_stand parts lives f cs lists open')

pub expected : (parts : SigParts) (P : Tree → Type 0) → IsExpectedBy parts P
expected parts P = record {
  once = λ ts are. rising_weaken (IsBefore parts) (λ s t. s ≢ t) ts (λ s t p q h same. never_before_itself parts t (subst (λ z. IsBefore parts z t) same h)) are.rising;
  next = λ before t after are.
      exact_next (IsBefore parts) (never_before_itself parts) (before_chain parts) P P before t after are.rising (λ w. (are.members w).1) (λ w h. h) ((are.members t).0 (in_right before here));
  none = λ ts are. exact_spent (IsBefore parts) (never_before_itself parts) (before_chain parts) P P ts (λ w. (are.members w).1) (λ w h. h);
}

pub later_spreads : LaterSpreadsDontMatter
later_spreads parts well known late c after =
    (considered_fewer parts (weighs_something parts well) known late c after, considered_more parts known (known ++ late) c (λ a at. in_left late at))

pub later_lives : LaterLivesDontMatter
later_lives parts well c known late t after =
    (instance_fewer parts (weighs_something parts well) c known late t after, instance_more parts c known (known ++ late) t (λ a at. in_left late at))
