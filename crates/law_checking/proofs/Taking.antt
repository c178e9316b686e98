-- Taking trees off lines, line by line.
use Rattle.std.proofs.Common.{◌≡◌, ℕ, zero, suc, ◌+◌, ◌-◌, ◌<◌, ◌≤◌, ◌^◌, inl, inr, min, List, [], ◌∷◌, ◌++◌, length, sym, refl, ap, ap₂, ◌∙◌, append_assoc, arith}
use Rattle.std.proofs.lemmas.Bool.{cases_lt}
use Rattle.law_cert_text.specs.declared.cert.TreeLine.{TreeLine}
use Rattle.law_checking.specs.declared.part.Part.{Part}
use Rattle.law_checking.specs.Lines.{arity, taken, behind, part_of, parts_of, kids_of}

-- where there are no more lines than trees wanted, all are taken
taken_all : (n : ℕ) (lines : List TreeLine) → length lines ≤ n → taken n lines ≡ lines
taken_all zero [] end = refl
taken_all (suc n) [] end = refl
taken_all zero (line ∷ lines) end = absurd (omega arith)
taken_all (suc n) (line ∷ lines) end = let less : length lines ≤ n + arity line = omega arith in ap (λ l. line ∷ l) (taken_all (n + arity line) lines less)

behind_all : (n : ℕ) (lines : List TreeLine) → length lines ≤ n → behind n lines ≡ []
behind_all zero [] end = refl
behind_all (suc n) [] end = refl
behind_all zero (line ∷ lines) end = absurd (omega arith)
behind_all (suc n) (line ∷ lines) end = let less : length lines ≤ n + arity line = omega arith in behind_all (n + arity line) lines less

-- a number that is cut off at the number of lines, or the same
abbrev IsCut : ℕ → ℕ → List TreeLine → Type 0
IsCut more n lines = more ≡ min (min n (2 ^ 64 - 1)) (length lines)

same_taken : (more n : ℕ) (lines : List TreeLine) → length lines < 2 ^ 64 → IsCut more n lines → (taken more lines ≡ taken n lines) × (behind more lines ≡ behind n lines)
same_taken more n lines fits cut = elim (cases_lt n (length lines)) [
  | inl less ↦ let is : more ≡ n = omega arith in (ap (λ k. taken k lines) is, ap (λ k. behind k lines) is)
  | inr end ↦
      let long : length lines ≤ more = omega arith in
      (taken_all more lines long ∙ sym (taken_all n lines end), behind_all more lines long ∙ sym (behind_all n lines end))
]

pub tree_next : (part : Part) (owed less more : ℕ) (line : TreeLine) (lines rest : List TreeLine) (found next whole : List ℕ) (end : List TreeLine) → 0 < owed → less ≡ owed - 1
    → lines ≡ line ∷ rest → length rest < 2 ^ 64 → IsCut more (less + arity line) rest → next ≡ found ++ part_of part line
    → found ++ parts_of part (taken owed lines) ≡ whole → behind owed lines ≡ end → (next ++ parts_of part (taken more rest) ≡ whole) × (behind more rest ≡ end)
tree_next part zero less more line lines rest found next whole end some one is fits cut grows parts left = absurd (omega arith)
tree_next part (suc n) less more line lines rest found next whole end some one is fits cut grows parts left =
    let same = same_taken more (less + arity line) rest fits cut in
    let lower : less ≡ n = omega arith in (
      ap₂ (λ f l. f ++ parts_of part l) grows (same.0 ∙ ap (λ k. taken (k + arity line) rest) lower)
          ∙ append_assoc found (part_of part line) (parts_of part (taken (n + arity line) rest))
          ∙ ap (λ l. found ++ parts_of part (taken (suc n) l)) (sym is) ∙ parts,
      same.1 ∙ ap (λ k. behind (k + arity line) rest) lower ∙ ap (behind (suc n)) (sym is) ∙ left,
    )

pub kid_next : (part : Part) (owed less : ℕ) (lines rest : List TreeLine) (kids next whole : List (List ℕ)) (numbers : List ℕ) → 0 < owed → less ≡ owed - 1 → 0 < length lines
    → numbers ≡ parts_of part (taken 1 lines) → rest ≡ behind 1 lines → next ≡ kids ++ numbers ∷ [] → kids ++ kids_of part owed lines ≡ whole
    → next ++ kids_of part less rest ≡ whole
kid_next part zero less lines rest kids next whole numbers some one long first behind_is grows so_far = absurd (omega arith)
kid_next part (suc n) less [] rest kids next whole numbers some one long first behind_is grows so_far = absurd (omega arith)
kid_next part (suc n) less (line ∷ lines) rest kids next whole numbers some one long first behind_is grows so_far =
    let lower : less ≡ n = omega arith in
    ap (λ l. l ++ kids_of part less rest) grows ∙ append_assoc kids (numbers ∷ []) (kids_of part less rest)
    ∙ ap (λ l. kids ++ l) (ap₂ ◌∷◌ first (ap₂ (kids_of part) lower behind_is)) ∙ so_far
