-- What an agenda knows after a spread schema.
use Rattle.std.proofs.Common.{◌≡◌, ℕ, zero, suc, ◌-◌, ◌≤◌, ◌⊎◌, inl, inr, List, [], ◌∷◌, ◌++◌, true, take, drop, Option, Some, None, slice_get, refl, sym, ap, ◌∙◌, subst, subst₂, append-nil, arith}
use Rattle.std.specs.Option.{MatchOption}
use Rattle.law_sig.specs.Lists.{In, Each, Rising}
use Rattle.law_sig.specs.Trees.{schema_of}
use Rattle.law_sig.specs.Signature.{symbol_at, sort_of}
use Rattle.law_sig.specs.Tests.{weight, is_bounded}
use Rattle.law_sig.specs.Order.{IsBefore}
use Rattle.law_sig.specs.declared.tree.SortId.{SortId}
use Rattle.law_sig.specs.declared.tree.Tree.{Tree}
use Rattle.law_sig.specs.declared.tree.Tree.TheVariants.{Var}
use Rattle.law_sig.specs.declared.parts.SigParts.{SigParts}
use Rattle.law_laws.proofs.BodyFacts.{some_is, none_is}
use Rattle.law_laws.proofs.ListFacts.{in_none, in_left, in_right, in_split, each_of, of_each}
use Rattle.law_laws.proofs.Orders.{never_before_itself}
use Rattle.law_laws.proofs.TreeFacts.{same_var, var_no_app}
use Rattle.law_sig.specs.Schemas.{IsConsidered}
use Rattle.law_sig.specs.Schemas.IsConsidered.{variable, application}
use Rattle.law_agenda.specs.declared.agenda.Agenda.{Agenda}
use Rattle.law_agenda.specs.declared.agenda.Going.{Going}
use Rattle.law_agenda.specs.declared.candidates.Candidate.{Candidate}
use Rattle.law_agenda.specs.declared.candidates.Candidate.TheVariants as candidate
use Rattle.law_agenda.specs.declared.instances.Instance.{Instance}
use Rattle.law_listing.specs.declared.pick.Pick.{Pick}
use Rattle.law_agenda.specs.declared.shelves.Spread.{Spread}
use Rattle.law_agenda.specs.declared.stores.Store.{Store}
use Rattle.law_agenda.specs.Candidates.{IsCandidate, NextOf}
use Rattle.law_listing.specs.Choices.{Picked}
use Rattle.law_agenda.specs.Instances.{range_of, ranges_of, IsRange, AreRanges, IsOpenVar, IsOpened, FirstInstance}
use Rattle.law_valid.specs.Order.{Progress, after_spread, IsSchemaNext, AreSpent}
use Rattle.law_agenda.specs.Shelves.{Shelf, bucket, lists_for, schemas_in, sorts_of}
use Rattle.law_agenda.specs.Stores.{IsStore, IsItem, IsClosed, Closes}
use Rattle.law_agenda.specs.Agendas.{IsReady, IsGoing, IsStage, IsAt, IsFinished, Begins, AreKept, AreRanged}
use Rattle.law_listing.proofs.Rising.{at_place}
use Rattle.law_agenda.proofs.Columns.{column_at}
use Rattle.law_agenda.proofs.Seeking.{some_case}
use Rattle.law_listing.proofs.Staging.{first_after, spent_after}
use Rattle.law_agenda.proofs.Items.{candidate_weight, considered_sort}
use Rattle.law_agenda.proofs.AgendaFacts.{first_one, fitting_of}

-- The ranges of what a row picks

spread_at : (xs : List Spread) (n : ℕ) (c : Tree) → slice_get (schemas_in xs) n ≡ Some c → (e : Spread) × (slice_get xs n ≡ Some e) × (e.schema ≡ c)
spread_at [] n c e = none_is c e
spread_at (x ∷ xs) zero c e = (x, refl, some_is x.schema c e)
spread_at (x ∷ xs) (suc n) c e = spread_at xs n c e

picked_ranges : (parts : SigParts) (lives : List Tree) (store : Store) (ss : List SortId) (row : List Pick) (cs : List Tree) → AreRanged parts lives store → Picked (lists_for store.shelf ss) row cs
    → AreRanges parts lives cs (ranges_of store.shelf ss row)
picked_ranges parts lives store [] [] [] ranged h = tt
picked_ranges parts lives store [] [] (c ∷ cs) ranged h = absurd h
picked_ranges parts lives store [] (p ∷ row) cs ranged h = absurd h
picked_ranges parts lives store (s ∷ ss) [] cs ranged h = absurd h
picked_ranges parts lives store (s ∷ ss) (p ∷ row) [] ranged h = absurd h
picked_ranges parts lives store (s ∷ ss) (p ∷ row) (c ∷ cs) ranged h =
    let (e, at, same) = spread_at (bucket store.shelf p.weight s) p.at c (subst (λ l. slice_get l p.at ≡ Some c) (column_at store.shelf s p.weight) h.0) in (
      subst₂ (λ d o. IsRange parts lives d (range_of o)) same (sym at) (ranged e (inr (record { own = p.weight; sort = s; at = at_place e (bucket store.shelf p.weight s) p.at at }))),
      picked_ranges parts lives store ss row cs ranged h.1,
    )

open_var : (parts : SigParts) (spreads : List Tree) (sort : SortId) (c : Tree) → 1 ≤ parts.settings.size → IsConsidered parts spreads c → c ≡ Var sort 0 → IsOpenVar parts sort
open_var parts spreads sort c small (variable s declared some) e =
    subst (IsOpenVar parts) (same_var s sort 0 0 e).0 (record { declared = declared; some = some; small = small })
open_var parts spreads sort c small (application f cs s explored each sorted light) e = absurd (var_no_app sort 0 f cs (sym e))

-- the schema at hand is one whose instances can be gone through
opened : (parts : SigParts) (spreads lives : List Tree) (store : Store) (k : Candidate) (c : Tree) → IsStore parts spreads store → AreRanged parts lives store → Each (λ t. is_bounded parts t ≡ true) lives
    → IsCandidate parts store.shelf store.weight k c → IsConsidered parts spreads c → IsOpened parts lives store.shelf k c
opened parts spreads lives store (candidate.Var sort) c is ranged bounded h considered =
    let some = is.weighs in
    let small = is.stock.small in
    (h.0, open_var parts spreads sort c (omega arith) considered h.0)
opened parts spreads lives store (candidate.App f walk) c is ranged bounded h considered =
    let (cs, picked, e) = h.term_is in
    let (sort, sorted) = considered_sort parts spreads c considered in
    let heavy = candidate_weight parts spreads store (candidate.App f walk) c is h tt in
    let small = is.stock.small in
    let light : weight parts c ≤ parts.settings.size = omega arith in (
      h.declared,
      cs,
      e,
      record {
        ranges = picked_ranges parts lives store (sorts_of (symbol_at parts f)) walk.row cs ranged picked;
        explored = h.explored;
        sort = sort;
        sorted = subst (λ t. sort_of parts t ≡ Some sort) e sorted;
        small = subst (λ t. weight parts t ≤ parts.settings.size) e light;
        bounded = bounded;
      },
    )

-- A spread schema more

at_hand : (a : Agenda) (p : Progress) (c : Tree) (k : Candidate) → IsReady a p → IsSchemaNext p c → a.schema ≡ Some k → IsCandidate p.parts a.store.shelf a.store.weight k c
at_hand a p c k r next e =
    let h = some_case _ _ a.schema k e r.next in
    subst (IsCandidate p.parts a.store.shelf a.store.weight k) (first_one p.parts (IsConsidered p.parts p.spreads) p.schemas h.0 c h.2 next) h.1

after_spreads : (a : Agenda) (p : Progress) (c : Tree) → IsReady a p → IsSchemaNext p c → IsClosed p.parts p.spreads c
after_spreads a p c r next = record {
  considered = next.is;
  after = each_of (λ d. IsBefore p.parts d c) p.spreads (λ d at. of_each (λ y. IsBefore p.parts y c) (r.done d at) next.above);
}

kept_more : (parts : SigParts) (spreads lives : List Tree) (c : Tree) → AreKept parts spreads lives → AreKept parts (spreads ++ c ∷ []) lives
kept_more parts spreads lives c h = record { bounded = h.bounded; owned = λ t at. in_left (c ∷ []) (h.owned t at) }

-- no live term has the new schema
no_range : (a : Agenda) (p : Progress) (c : Tree) → IsReady a p → IsSchemaNext p c → IsRange p.parts p.lives c (record { from = a.lives; to = a.lives })
no_range a p c r next = record {
  within = let e = r.long in omega arith;
  members = λ t. (λ at. in_none (subst (In t) none at), λ h. absurd (fresh t h.0 h.1));
  rising = subst (Rising (IsBefore p.parts)) (sym none) tt;
}
  where
    none : take (a.lives - a.lives) (drop a.lives p.lives) ≡ []
    none = let e : a.lives - a.lives ≡ 0 = omega arith in ap (λ n. take n (drop a.lives p.lives)) e

    fresh : (t : Tree) → In t p.lives → schema_of t ≡ c → ⊥
    fresh t at e = never_before_itself p.parts c (of_each (λ y. IsBefore p.parts y c) (subst (λ d. In d p.spreads) e (r.kept.owned t at)) (after_spreads a p c r next).after)

abbrev pub Going_from : ℕ → Tree → Instance → Going
Going_from n c i = record { spread = record { schema = c; from = n; to = n }; instance = i }

abbrev pub Begun : Agenda → Candidate → Tree → Instance → Agenda
Begun a k c i = record { store = a.store; schema = Some k; going = Some (Going_from a.lives c i); lives = a.lives }

-- what looking for the first instance gives
abbrev pub Firsts : SigParts → Shelf → Candidate → Option Instance → Type 0
Firsts parts shelf k o = (lives : List Tree) (c : Tree) → IsOpened parts lives shelf k c → FirstInstance parts lives c o

pub first_here : (sig : SigParts) (shelf : Shelf) (a : Agenda) (p : Progress) (c : Tree) (k : Candidate) (o found : Option Instance) → IsReady a p → IsSchemaNext p c → a.schema ≡ Some k → sig ≡ p.parts
    → shelf ≡ a.store.shelf → o ≡ found → Firsts sig shelf k o → FirstInstance p.parts p.lives c found
first_here sig shelf a p c k o found r next k_is sig_is shelf_is o_is go =
    subst (FirstInstance p.parts p.lives c) o_is (subst₂ (λ s l. Firsts s l k o) sig_is shelf_is go p.lives c
    (opened p.parts p.spreads p.lives a.store k c r.store_is r.ranged r.kept.bounded (at_hand a p c k r next k_is) next.is))

-- its first instance is expected
pub spread_on : (a : Agenda) (p : Progress) (c own : Tree) (k : Candidate) (i : Instance) → IsReady a p → IsSchemaNext p c → a.schema ≡ Some k → own ≡ c → FirstInstance p.parts p.lives c (Some i)
    → IsGoing (Begun a k own i) (Going_from a.lives own i) (after_spread p c)
spread_on a p c own k i r next k_is own_is first = subst (λ d. IsGoing (Begun a k d i) (Going_from a.lives d i) (after_spread p c)) (sym own_is) made
  where
    cand : IsCandidate p.parts a.store.shelf a.store.weight k c
    cand = at_hand a p c k r next k_is

    made : IsGoing (Begun a k c i) (Going_from a.lives c i) (after_spread p c)
    made = record {
      earlier = p.spreads;
      before = p.schemas;
      terms = [];
      spreads_are = refl;
      schemas_are = refl;
      block_is = refl;
      above = next.above;
      done = r.done;
      store_is = r.store_is;
      ranged = r.ranged;
      closed = after_spreads a p c r next;
      long = r.long;
      kept = kept_more p.parts p.spreads p.lives c r.kept;
      candidate = k;
      schema_is = refl;
      candidate_is = cand;
      fitting = fitting_of p.parts a.store k c cand;
      old = p.lives;
      new = [];
      lives_are = sym (append-nil p.lives);
      from_is = r.long;
      old_owned = r.kept.owned;
      new_owned = tt;
      rising = tt;
      term = first.0;
      term_is = first.1;
      held = first.2;
      next = first.3;
      later = tt;
    }

-- what putting a schema into a store gives
-- it has no instance
pub spread_over : (sig : SigParts) (a b : Agenda) (p : Progress) (c own : Tree) (k : Candidate) → IsReady a p → IsSchemaNext p c → a.schema ≡ Some k → own ≡ c → sig ≡ p.parts
    → FirstInstance p.parts p.lives c None → ((e : Spread) → IsItem b.store e → IsItem a.store e ⊎ (e ≡ record { schema = own; from = a.lives; to = a.lives })) → Closes sig a.store k own b.store b.schema
    → b.lives ≡ a.lives → IsReady b (after_spread p c)
spread_over sig a b p c own k r next k_is own_is sig_is spent items closes l = record {
  spent = spent;
  store_is = found.0;
  ranged = λ e at. range e (items e at);
  kept = kept_more p.parts p.spreads p.lives c r.kept;
  long = r.long ∙ sym l;
  done = λ d at. stated d (in_split p.spreads (c ∷ []) at);
  next = by b.schema found.1;
}
  where
    cand : IsCandidate p.parts a.store.shelf a.store.weight k c
    cand = at_hand a p c k r next k_is

    found : IsStore p.parts (p.spreads ++ c ∷ []) b.store × NextOf p.parts b.store.shelf b.store.weight (IsConsidered p.parts (p.spreads ++ c ∷ [])) c b.schema
    found = subst₂ (λ s d. Closes s a.store k d b.store b.schema) sig_is own_is closes p.spreads r.store_is cand (fitting_of p.parts a.store k c cand) (after_spreads a p c r next)

    range : (e : Spread) → IsItem a.store e ⊎ (e ≡ record { schema = own; from = a.lives; to = a.lives }) → IsRange p.parts p.lives e.schema (record { from = e.from; to = e.to })
    range e (inl at) = r.ranged e at
    range e (inr same) = subst (λ (z : Spread). IsRange p.parts p.lives z.schema (record { from = z.from; to = z.to })) (sym same)
        (subst (λ d. IsRange p.parts p.lives d (record { from = a.lives; to = a.lives })) (sym own_is) (no_range a p c r next))

    stated : (d : Tree) → In d p.spreads ⊎ In d (c ∷ []) → In d (p.schemas ++ c ∷ [])
    stated d (inl at) = in_left (c ∷ []) (r.done d at)
    stated d (inr at) = in_right p.schemas at

    by : (n : Option Candidate) → NextOf p.parts b.store.shelf b.store.weight (IsConsidered p.parts (p.spreads ++ c ∷ [])) c n
        → MatchOption n (AreSpent (after_spread p c)) (λ k. (d : Tree) × IsCandidate p.parts b.store.shelf b.store.weight k d × IsSchemaNext (after_spread p c) d)
    by None h = spent_after p.parts (IsConsidered p.parts (p.spreads ++ c ∷ [])) p.schemas c h
    by (Some k) (d, d_is, f) = (d, d_is, first_after p.parts (IsConsidered p.parts (p.spreads ++ c ∷ [])) p.schemas c d next.above f)

-- The same of an agenda by what it has

abbrev Made : Store → Candidate → Tree → Instance → ℕ → Agenda
Made store k c i n = record { store = store; schema = Some k; going = Some (Going_from n c i); lives = n }

pub begun_on : (parts : SigParts) (store : Store) (k : Candidate) (c : Tree) (n : ℕ) (o : Option Instance) (i : Instance) (a : Agenda) → o ≡ Some i → Firsts parts store.shelf k o
    → a ≡ Made store k c i n → Begins parts store k c n a
begun_on parts store k c n o i a some go made old p r store_is schema_is lives_is sig_is next =
    let first = first_here parts store.shelf old p c k o (Some i) r next schema_is sig_is (ap (λ (s : Store). s.shelf) (sym store_is)) some go in
    subst (λ b. IsAt b (after_spread p c)) (sym made)
    (subst₂ (λ s m. IsAt (Made s k c i m) (after_spread p c)) store_is lives_is (spread_on old p c c k i r next schema_is refl first))

pub begun_over : (parts : SigParts) (store : Store) (k : Candidate) (c : Tree) (n : ℕ) (o : Option Instance) (a : Agenda) → o ≡ None → Firsts parts store.shelf k o
    → IsFinished parts store k (record { schema = c; from = n; to = n }) n a → Begins parts store k c n a
begun_over parts store k c n o a none go done old p r store_is schema_is lives_is sig_is next =
    let first = first_here parts store.shelf old p c k o None r next schema_is sig_is (ap (λ (s : Store). s.shelf) (sym store_is)) none go in
    subst (λ g. IsStage g a (after_spread p c)) (sym done.rests)
    (spread_over parts old a p c c k r next schema_is refl sig_is first
    (subst₂ (λ s m. (e : Spread) → IsItem a.store e → IsItem s e ⊎ (e ≡ record { schema = c; from = m; to = m })) (sym store_is) (sym lives_is) done.items)
    (subst (λ s. Closes parts s k c a.store a.schema) (sym store_is) done.closes) (done.long ∙ sym lives_is))
