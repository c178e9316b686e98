-- Facts for the top call: one word, and what the input was.
use Rattle.std.proofs.Common.{◌≡◌, ℕ, suc, ◌+◌, ◌≤◌, List, [], ◌∷◌, ◌++◌, length, take, Option, slice_index_or, arith, sym, ap, ◌∙◌, length-append, Result, Ok, Err, OnOk, is_err, false}
use Rattle.law_cli.specs.Commands.{most_bytes}
use Rattle.law_cli.specs.Reading.{GaveAtMost, GaveTooMany, IsReading, StandsFor}
use Rattle.law_cli.specs.declared.command.Command.{Command}
use Rattle.law_cli.specs.declared.pieces.Pieces.{Pieces}
use Rattle.std.proofs.lemmas.List.{length-take}
use Rattle.std.specs.Io.KnownBytes.{Consumes}
use Rattle.law_cli.proofs.LeftFacts.{Consumes-trans}

-- a list of one item is that item
pub one_item : {A : Type 0} (xs : List A) (x : A) → length xs ≡ 1 → x ≡ slice_index_or xs 0 x → xs ≡ x ∷ []
one_item [] x one is = absurd (omega arith)
one_item (y ∷ []) x one is = ap (λ z. z ∷ []) (sym is)
one_item (y ∷ z ∷ zs) x one is = absurd (omega arith)

-- one item is the other where the lists of each are
pub same_head : (x y : List ℕ) → ◌≡◌ {A = List (List ℕ)} (x ∷ []) (y ∷ []) → x ≡ y
same_head x y e = cc

-- what was read, and what one more call gave
pub gave_at_most : (before middle now : Option (List ℕ)) (xs got : List ℕ) (count length_xs most : ℕ) → Consumes before middle xs → Consumes middle now (take count got)
    → length_xs ≡ length xs → length_xs + count ≤ most → GaveAtMost before now most
gave_at_most before middle now xs got count length_xs most had more is few = record {
  bytes = xs ++ take count got;
  consumed = Consumes-trans before middle now xs (take count got) had more;
  count = omega (arith, length-append xs (take count got), length-take count got);
}

pub gave_too_many : (before middle now : Option (List ℕ)) (xs got : List ℕ) (count length_xs most : ℕ) → Consumes before middle xs → Consumes middle now (take count got)
    → length_xs ≡ length xs → count ≤ length got → length_xs + count ≡ suc most → GaveTooMany before now most
gave_too_many before middle now xs got count length_xs most had more is fits many = record {
  bytes = xs ++ take count got;
  consumed = Consumes-trans before middle now xs (take count got) had more;
  count = omega (arith, length-append xs (take count got), length-take count got);
}

-- one piece more
pub one_more : (asked : Command) (before middle now : Option (List ℕ)) (old new : Pieces) (count more faults_before faults faults_now : ℕ) (piece : List ℕ)
    → IsReading asked before middle old count faults_before faults → Consumes middle now piece → length piece ≡ more → count + more ≤ most_bytes asked
    → ((command : Command) (text : List ℕ) → StandsFor command old text → StandsFor command new (text ++ piece)) → faults_now ≡ faults → IsReading asked before now new (count + more) faults_before faults_now
one_more asked before middle now old new count more faults_before faults faults_now piece reading read is few takes kept = record {
  bytes = reading.bytes ++ piece;
  consumed = Consumes-trans before middle now reading.bytes piece reading.consumed read;
  counted = omega (arith, reading.counted, is, length-append reading.bytes piece);
  short = few;
  stands = takes asked reading.bytes reading.stands;
  steady = kept ∙ reading.steady;
}

-- what holds behind a call that went well
pub went : {A E : Type 0} (r : Result A E) (P : Type 0) → OnOk r P → is_err r ≡ false → P
went (Ok x) P h e = h
went (Err x) P h e = cc
