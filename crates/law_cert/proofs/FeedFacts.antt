-- Pieces that are fed one after another, cut at line feeds.
use Rattle.std.proofs.Common.{◌≡◌, ℕ, zero, suc, ◌+◌, ◌-◌, ◌<◌, ◌==◌, ◌||◌, eqb-true, Bool, true, false, take, drop, length, List, [], ◌∷◌, ◌++◌, Result, Ok, Err, MatchResult, inl, inr, ◌⊎◌, refl, ap, sym, subst, ◌∙◌, arith}
use Rattle.std.proofs.lemmas.List.{append_assoc, append-nil}
use Rattle.std.proofs.lemmas.Grind.{common_steps}
use Rattle.memchr.specs.Find.{Nowhere, Passes, is_byte}
use Rattle.law_lines.specs.Texts.{IsUnbroken, has_feed}
use Rattle.law_cert_text.specs.declared.error.CertErr.{CertErr}
use Rattle.law_cert_text.specs.declared.error.CertErr.TheVariants as error
use Rattle.law_cert_text.specs.Readers.{Heard, IsFed, IsOpen, IsStopped, Stops, StopsNow, heard_text}
use Rattle.law_cert_text.specs.Readings.{FaultAt, FaultyLine, HasReading}
use Rattle.law_cert_text.proofs.Refusals.{fault_more}

-- Bytes without a line feed

head_none : (b : Bool) → (b ≡ true → ⊥) → (c : Bool) → c ≡ false → (b || c) ≡ false
head_none true f c e = absurd (f refl)
head_none false f c e = e

pub none_in : (hay : List ℕ) → Nowhere (Passes (is_byte 10) hay) 0 (length hay) → IsUnbroken hay
none_in [] none = refl
none_in (x ∷ xs) none = head_none (x == 10) (none 0 (omega arith) (omega arith)) (has_feed xs) (none_in xs (λ k low high. none (suc k) (omega arith) (omega arith)))

-- the bytes before the first line feed, the line feed, and the bytes behind it
pub record FirstFeed (hay : List ℕ) (end : ℕ) : Type 0 where
  pub before : IsUnbroken (take end hay)
  pub parts : hay ≡ take end hay ++ 10 ∷ drop (end + 1) hay

pub first_in : (hay : List ℕ) (end : ℕ) → end < length hay → Nowhere (Passes (is_byte 10) hay) 0 end → Passes (is_byte 10) hay end → FirstFeed hay end
first_in [] end less none here = absurd (omega arith)
first_in (x ∷ xs) zero less none here = record { before = refl; parts = ap (λ b. b ∷ xs) (eqb-true x 10 here) }
first_in (x ∷ xs) (suc end) less none here =
    let next = first_in xs end (omega arith) (λ k low high. none (suc k) (omega arith) (omega arith)) here in
    let one_more : suc end + 1 ≡ suc (end + 1) = omega arith in
    record {
      before = head_none (x == 10) (none 0 (omega arith) (omega arith)) (has_feed (take end xs)) next.before;
      parts = ap (λ l. x ∷ l) next.parts ∙ ap (λ k. (x ∷ take end xs) ++ 10 ∷ drop k (x ∷ xs)) (sym one_more);
    }

-- One piece after another

pub fed_on : (a b c : Heard) (xs ys : List ℕ) → IsFed a b xs → IsFed b c ys → IsFed a c (xs ++ ys)
fed_on a b c xs ys f g = record {
  before = f.before;
  after = g.after;
  text = g.text ∙ ap (λ t. t ++ ys) f.text ∙ append_assoc (heard_text a) xs ys;
  reads = g.reads;
  whole = g.whole;
}

-- what is refused in a piece is refused in all that it begins
pub stops_on : (a b c : Heard) (xs ys more piece : List ℕ) (why : CertErr) → piece ≡ xs ++ (ys ++ more) → IsFed a b xs → IsStopped b c ys why → IsStopped a c piece why
stops_on a b c xs ys more piece why is fed stopped = record { kept = stopped.kept; cause = by why stopped.cause }
  where
    by : (why : CertErr) → Stops b why ⊎ StopsNow b ys why → Stops a why ⊎ StopsNow a piece why
    by (error.Form number) (inl s) = let x = s.0 in let y = fed.after.allowed in absurd cc
    by error.NoMemory (inl s) = let x = s.0 in let y = fed.after.fed in absurd cc
    by (error.Form number) (inr s) = inr (record {
      before = fed.before;
      fault = subst (λ t. FaultAt t number FaultyLine)
          (ap (λ t. (t ++ ys) ++ more) fed.text ∙ append_assoc (heard_text a ++ xs) ys more ∙ append_assoc (heard_text a) xs (ys ++ more) ∙ ap (λ t. heard_text a ++ t) (sym is))
          (fault_more (heard_text b ++ ys) more number s.fault);
    })
    by error.NoMemory (inr s) = inr (record { before = fed.before; fault = tt })

-- What was fed of a piece, and what is left of it.
pub record Feeding (old now : Heard) (piece rest : List ℕ) : Type 0 where
  pub done : List ℕ
  pub parts : piece ≡ done ++ rest
  pub fed : IsFed old now done

pub feeding_none : (a : Heard) (piece : List ℕ) → IsOpen a → HasReading a.lines → (IsOpen a → IsUnbroken a.unfinished) → Feeding a a piece piece
feeding_none a piece o reads whole = record { done = []; parts = refl; fed = record { before = o; after = o; text = sym (append-nil (heard_text a)); reads = reads; whole = whole o } }

-- up to a line feed, and over it
whole_rest : (xs : List ℕ) (n : ℕ) → take (length xs - n) (drop n xs) ≡ drop n xs
whole_rest xs n = grind (arith, common_steps)

pub feeding_more : (old a b c : Heard) (piece rest left : List ℕ) (end : ℕ) → Feeding old a piece rest → FirstFeed rest end → IsFed a b (take end rest) → IsFed b c (10 ∷ [])
    → left ≡ take (length rest - (end + 1)) (drop (end + 1) rest) → Feeding old c piece left
feeding_more old a b c piece rest left end f first kept turned is = record {
  done = (f.done ++ take end rest) ++ 10 ∷ [];
  parts = f.parts ∙ ap (λ l. f.done ++ l) first.parts ∙ sym (append_assoc f.done (take end rest) (10 ∷ drop (end + 1) rest))
      ∙ sym (append_assoc (f.done ++ take end rest) (10 ∷ []) (drop (end + 1) rest)) ∙ ap (λ l. ((f.done ++ take end rest) ++ 10 ∷ []) ++ l) (sym (is ∙ whole_rest rest (end + 1)));
  fed = fed_on old b c (f.done ++ take end rest) (10 ∷ []) (fed_on old a b f.done (take end rest) f.fed kept) turned;
}

pub feeding_last : (old a b : Heard) (piece rest : List ℕ) → Feeding old a piece rest → IsFed a b rest → IsFed old b piece
feeding_last old a b piece rest f kept = subst (IsFed old b) (sym f.parts) (fed_on old a b f.done rest f.fed kept)

-- memory, or a line, is refused
pub keeping_stops : (old a b : Heard) (piece rest : List ℕ) (end : ℕ) (why : CertErr) → Feeding old a piece rest → FirstFeed rest end → IsStopped a b (take end rest) why → IsStopped old b piece why
keeping_stops old a b piece rest end why f first stopped =
    stops_on old a b f.done (take end rest) (10 ∷ drop (end + 1) rest) piece why (f.parts ∙ ap (λ l. f.done ++ l) first.parts) f.fed stopped

pub turning_stops : (old a b c : Heard) (piece rest : List ℕ) (end : ℕ) (why : CertErr) → Feeding old a piece rest → FirstFeed rest end → IsFed a b (take end rest) → IsStopped b c (10 ∷ []) why
    → IsStopped old c piece why
turning_stops old a b c piece rest end why f first kept stopped =
    stops_on old b c (f.done ++ take end rest) (10 ∷ []) (drop (end + 1) rest) piece why
    (f.parts ∙ ap (λ l. f.done ++ l) first.parts ∙ sym (append_assoc f.done (take end rest) (10 ∷ drop (end + 1) rest)))
    (fed_on old a b f.done (take end rest) f.fed kept) stopped

pub last_stops : (old a b : Heard) (piece rest : List ℕ) (why : CertErr) → Feeding old a piece rest → IsStopped a b rest why → IsStopped old b piece why
last_stops old a b piece rest why f stopped =
    stops_on old a b f.done rest [] piece why (f.parts ∙ ap (λ l. f.done ++ l) (sym (append-nil rest))) f.fed stopped

pub last_fed : (r : Result Unit CertErr) (old a b : Heard) (piece rest : List ℕ) → Feeding old a piece rest → MatchResult r (λ _. IsFed a b rest) (IsStopped a b rest) → MatchResult r (λ _. IsFed old b piece) (IsStopped old b piece)
last_fed (Ok u) old a b piece rest f h = feeding_last old a b piece rest f h
last_fed (Err why) old a b piece rest f h = last_stops old a b piece rest why f h
