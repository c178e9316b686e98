-- What follows from the words of a sink's contract.
use Rattle.std.proofs.Common.{ℕ, ◌+◌, ◌-◌, List, [], ◌++◌, length, take, drop, sym, subst, arith}
use Rattle.std.proofs.lemmas.Grind.{common_steps}
use Rattle.std.proofs.Math.Seq.{take-add, take-append-add}
use Rattle.std.proofs.lemmas.List.{take_rest}
use Rattle.law_io.specs.Takings.{Taken, Grows, Stays, GrewByPrefix}
use Rattle.law_io.specs.Takings.Taken.{Told, Silent, Spilled}

-- nothing taken is a growth by nothing
pub Grows-none : (old : Taken) → Grows old old []
Grows-none (Told xs) = grind (arith, common_steps)
Grows-none Silent = tt
Grows-none Spilled = tt

-- what stays has grown by nothing
pub Stays-Grows : (old new : Taken) → Stays old new → Grows old new []
Stays-Grows (Told xs) (Told ys) h = grind (arith, common_steps, h)
Stays-Grows (Told xs) Silent h = absurd h
Stays-Grows (Told xs) Spilled h = absurd h
Stays-Grows Silent new h = tt
Stays-Grows Spilled (Told ys) h = absurd h
Stays-Grows Spilled Silent h = absurd h
Stays-Grows Spilled Spilled h = tt

-- one growth after another
pub Grows-trans : (a b c : Taken) (xs ys : List ℕ) → Grows a b xs → Grows b c ys → Grows a c (xs ++ ys)
Grows-trans (Told a) (Told b) (Told c) xs ys h k = grind (arith, common_steps, h, k)
Grows-trans (Told a) (Told b) Silent xs ys h k = k
Grows-trans (Told a) (Told b) Spilled xs ys h k = tt
Grows-trans (Told a) Silent c xs ys h k = absurd h
Grows-trans (Told a) Spilled (Told c) xs ys h k = absurd k
Grows-trans (Told a) Spilled Silent xs ys h k = absurd k
Grows-trans (Told a) Spilled Spilled xs ys h k = tt
Grows-trans Silent b c xs ys h k = tt
Grows-trans Spilled (Told b) c xs ys h k = absurd h
Grows-trans Spilled Silent c xs ys h k = absurd h
Grows-trans Spilled Spilled (Told c) xs ys h k = absurd k
Grows-trans Spilled Spilled Silent xs ys h k = absurd k
Grows-trans Spilled Spilled Spilled xs ys h k = tt

-- the first bytes, and then the first bytes of the rest
pub Grows-more : (a b c : Taken) (bs : List ℕ) (at n : ℕ) → Grows a b (take at bs)
    → Grows b c (take n (take (length bs - at) (drop at bs))) → Grows a c (take (at + n) bs)
Grows-more a b c bs at n h k =
    let front : List ℕ → Type 0 = λ xs. Grows a c xs in
    let rest : List ℕ → Type 0 = λ xs. Grows b c (take n xs) in
    subst front (sym (take-add at n bs)) (Grows-trans a b c _ _ h (subst rest (take_rest bs at) k))

-- nothing is a prefix
pub GrewByPrefix-none : (old : Taken) (bs : List ℕ) → GrewByPrefix old old bs
GrewByPrefix-none old bs = record { count = 0; within = omega arith; grew = Grows-none old }

-- a whole text, and then a prefix of the next one
pub Grows-GrewByPrefix : (a b c : Taken) (xs ys : List ℕ) → Grows a b xs → GrewByPrefix b c ys → GrewByPrefix a c (xs ++ ys)
Grows-GrewByPrefix a b c xs ys h k =
    let front : List ℕ → Type 0 = λ zs. Grows a c zs in
    record {
      count = length xs + k.count;
      within = let w = k.within in grind (arith, common_steps);
      grew = subst front (sym (take-append-add xs ys k.count)) (Grows-trans a b c _ _ h k.grew);
    }
