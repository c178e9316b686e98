use Rattle.std.proofs.Common.{◌≡◌, Result, Ok, Err, IfOk, List, ap, sym, subst, ◌∙◌}
use Rattle.law_sig.specs.Schemas.{AreExactly}
use Rattle.law_sig.specs.Tests.{InU}
use Rattle.law_sig.specs.declared.tree.SortId.{SortId}
use Rattle.law_sig.specs.declared.tree.Tree.{Tree}
use Rattle.law_sig.specs.declared.seq.NoMemory.{NoMemory}
use Rattle.law_sig.specs.declared.parts.Settings.{Settings}
use Rattle.law_sig.specs.declared.parts.SigParts.{SigParts}
use Rattle.law_listing.specs.Listing.{listing}
use Rattle.law_listing.proofs.InstanceFacts.{listing_is}
use Rattle.law_explore.specs.Universe.{IsUniverse}
use Rattle.law_explore.proofs.explore.universe.Goals as goal

is_universe : (parts : SigParts) (terms : List Tree) → AreExactly parts (λ t. (sort : SortId) × InU parts sort t) terms → IsUniverse parts terms
is_universe parts terms are = record { ordered = are.rising; members = are.members }

pub returns : goal.returns
returns c = by c.listing.result c.listing.ensures
  where
    by : (r : Result (List Tree) NoMemory) → IfOk r (λ found. found ≡ listing c.args.sig.now c.settings.result.now.size) → IfOk r (λ terms. IsUniverse c.args.sig.now terms)
    by (Ok found) e = subst (IsUniverse c.args.sig.now)
        (sym (e ∙ ap (λ (s : Settings). listing c.args.sig.now s.size) c.settings.ensures.settings))
        (is_universe c.args.sig.now (listing c.args.sig.now c.args.sig.now.settings.size) (listing_is c.args.sig.now c.settings.ensures.well_formed))
    by (Err e) h = h
