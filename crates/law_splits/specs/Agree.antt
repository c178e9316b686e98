-- Agreement of items at tests. `M item test value` says that the item has the value at the test; `allowed` says which tests may
-- be used.
use Rattle.std.specs.Prelude.{ℕ, ◌≡◌, ◌≢◌, ◌<◌}

-- an item has one value at a test, at most
abbrev pub HasOneValue : {A V : Type 0} → (A → ℕ → V → Type 0) → Type 0
HasOneValue {A} {V} M = (x : A) (test : ℕ) (v w : V) → M x test v → M x test w → v ≡ w

module _ {A V : Type 0} (M : A → ℕ → V → Type 0) where
  -- both have one value
  abbrev pub AgreeAt : A → A → ℕ → Type 0
  AgreeAt x y test = (v : V) × M x test v × M y test v

  -- both have a value, and not the same one
  abbrev pub DifferAt : A → A → ℕ → Type 0
  DifferAt x y test = (v : V) × (w : V) × M x test v × M y test w × (v ≢ w)

module _ {A V : Type 0} (allowed : ℕ → Type 0) (M : A → ℕ → V → Type 0) where
  -- they agree at every allowed test
  abbrev pub Agree : A → A → Type 0
  Agree x y = (test : ℕ) → allowed test → AgreeAt M x y test

  -- they differ at some allowed test
  pub record Differ (x y : A) : Type 0 where
    pub test : ℕ
    pub is_allowed : allowed test
    pub differ : DifferAt M x y test

  -- the first allowed test at which they differ: they agree at each one before
  pub record IsFirstDifference (x y : A) (test : ℕ) : Type 0 where
    pub is_allowed : allowed test
    pub agree : (k : ℕ) → k < test → allowed k → AgreeAt M x y k
    pub differ : DifferAt M x y test
