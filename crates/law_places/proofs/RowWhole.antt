-- Whole rows and terms in brackets.
use Rattle.std.proofs.Common.{◌≡◌, ℕ, ◌+◌, ◌-◌, ◌<◌, ◌≤◌, Bool, true, false, ◌&&◌, List, [], ◌∷◌, ◌++◌, Option, refl, ap, sym, subst, ◌∙◌, arith, map, length, sum, nat_le}
use Rattle.std.proofs.lemmas.Bool.Decides.{nat_tests}
use Rattle.std.proofs.lemmas.Grind.{common_steps}
use Rattle.std.proofs.lemmas.List.{append_assoc, length-append, length-map, map-append, append-nil}
use Rattle.std.specs.List.{list_all}
use Rattle.law_lines.specs.Pieces.{pieces}
use Rattle.law_lines.specs.Pieces.Piece.{word, opening}
use Rattle.law_lines.specs.declared.token.Token.TheVariants as t
use Rattle.law_lines.specs.declared.raw.RawHead.{RawHead}
use Rattle.law_lines.specs.declared.raw.RawHead.TheVariants.{Name}
use Rattle.law_lines.specs.declared.raw.RawTerm.{RawTerm}
use Rattle.law_lines.specs.declared.raw.RawTerm.TheFolds.{fold-roll-RawTerm}
use Rattle.law_lines.specs.declared.raw.RawTerm.TheViews.{roll-RawTerm}
use Rattle.law_lines.specs.declared.want.Want.{Want}
use Rattle.law_lines.specs.declared.want.Want.TheVariants as w
use Rattle.law_lines.specs.declared.want.Bounds.TheVariants.{Kept}
use Rattle.law_lines.specs.declared.want.Place.{Place}
use Rattle.law_lines.specs.declared.want.Row.{Row}
use Rattle.law_lines.specs.declared.want.Row.TheVariants as r
use Rattle.law_lines.specs.declared.want.Ending.{Ending}
use Rattle.law_lines.specs.declared.want.Ending.TheVariants as e
use Rattle.law_lines.specs.declared.error.Stop.{Stop}
use Rattle.law_lines.specs.declared.error.ReadKind.{ReadKind}
use Rattle.law_lines.specs.Spelling.{arg_spelling, arg_step, spaced, bracketed}
use Rattle.law_lines.specs.Terms.{nodes_fit, node_fits, node_count, depth, largest, larger, is_name_in}
use Rattle.law_lines.specs.Walk.{walk, before_item, item_place, is_mark}
use Rattle.law_lines.specs.Reads.{Stops, Took, TookWord}
use Rattle.law_lines.specs.Rows.{AtomRead, IsTermRow, RowEnds, RowStep, RowGoes, MarkRead, ItemRead, BracketRead, Fits, HasRoom, IsFew, AllFit, RowSoFar, RowRead}
use Rattle.law_lines.proofs.Walks.{goes_on}
use Rattle.law_lines.proofs.RowSteps.{item_opened, item_word}
use Rattle.law_lines.proofs.Spaced.{spaced_append}

-- a fault further on is the fault
pub stops_later : (stop : Stop) (a b : Option ReadKind) → a ≡ b → Stops stop b → Stops stop a
stops_later stop a b e h = subst (λ x. Stops stop x) (sym e) h

-- What fits a row of arguments: each fits, the nodes add up, none is too deep.
pub each_fits : (place : Place) (level nodes : ℕ) (terms : List RawTerm) (more : ℕ) → AllFit (r.Args place) level nodes terms more → list_all (λ b. b) (map (nodes_fit Kept place) terms) ≡ true
each_fits place level nodes [] more h = refl
each_fits place level nodes (term ∷ terms) more h = ap (λ b. b && list_all (λ b. b) (map (nodes_fit Kept place) terms)) h.1.each ∙ each_fits place level h.0 terms more h.2

pub adds_up : (place : Place) (level nodes : ℕ) (terms : List RawTerm) (more : ℕ) → AllFit (r.Args place) level nodes terms more → more ≡ nodes + sum (map node_count terms)
adds_up place level nodes [] more h = omega (arith, h)
adds_up place level nodes (term ∷ terms) more h =
    let a = adds_up place level h.0 terms more h.2 in let b = h.1.count in grind (arith, sum_more (node_count term) (map node_count terms))
  where
    sum_more : (n : ℕ) (ns : List ℕ) → sum (n ∷ ns) ≡ n + sum ns
    sum_more n ns = grind (arith, common_steps)

pub is_low : (place : Place) (level nodes : ℕ) (terms : List RawTerm) (more : ℕ) → nodes ≤ 4096 → AllFit (r.Args place) level nodes terms more → more ≤ 4096
is_low place level nodes [] more low h = omega (arith, h)
is_low place level nodes (term ∷ terms) more low h = is_low place level h.0 terms more h.1.few h.2

largest_of : (b : Bool) (n m k : ℕ) → n ≤ k → m ≤ k → larger b n m ≤ k
largest_of true n m k h g = g
largest_of false n m k h g = h

pub not_deep : (place : Place) (level nodes : ℕ) (terms : List RawTerm) (more : ℕ) → level ≤ 257 → AllFit (r.Args place) level nodes terms more → level + largest (map depth terms) ≤ 257
not_deep place level nodes [] more low h = omega arith
not_deep place level nodes (term ∷ terms) more low h =
    let a = not_deep place level h.0 terms more low h.2 in let b = h.1.deep in
    let k : larger (nat_le (depth term) (largest (map depth terms))) (depth term) (largest (map depth terms)) ≤ 257 - level = largest_of (nat_le (depth term) (largest (map depth terms))) (depth term) (largest (map depth terms)) (257 - level) (omega arith) (omega arith) in
    omega arith

bracketed_some : (head : List ℕ) (terms : List RawTerm) → 0 < length terms → bracketed head (map arg_spelling terms) ≡ 40 ∷ (head ++ (spaced (map arg_spelling terms) ++ 41 ∷ []))
bracketed_some head [] some = absurd (omega arith)
bracketed_some head (term ∷ terms) some = refl

pub few_fit : (n : ℕ) → n ≤ 8 → nat_le n 8 ≡ true
few_fit n h = grind (arith, nat_tests)

pub bracket_read : (nodes : ℕ) (place : Place) (level : ℕ) (old mid new bytes text : List ℕ) (terms : List RawTerm) (more : ℕ) → nodes ≤ 4094 → level ≤ 256
    → TookWord nodes w.Head old mid bytes → text ≡ bytes → RowRead (nodes + 1) (r.Args place) level e.Bracket mid new terms more
    → BracketRead nodes place level old new (roll-RawTerm (record { head = Name text; args = terms })) more
bracket_read nodes place level old mid new bytes text terms more low level_low took is row = record {
  text = ap (λ l. 40 ∷ l) (took.text ∙ ap (λ l. l ++ mid) (sym is) ∙ ap (λ l. text ++ l) row.text)
      ∙ simp append_assoc refl
      ∙ ap (λ l. l ++ new) (sym (bracketed_some text terms row.some) ∙ sym (fold-roll-RawTerm (List ℕ) arg_step (record { head = Name text; args = terms })));
  walked = λ rest. goes_on nodes w.Head old mid (word bytes) took.first took.taken (w.Row (r.Args place) level 0 e.Bracket ∷ rest) ∙ row.walked rest;
  each = fold-roll-RawTerm Bool (node_fits Kept place) (record { head = Name text; args = terms })
      ∙ ap (λ b. b && (nat_le (length (map (nodes_fit Kept place) terms)) 8 && list_all (λ b. b) (map (nodes_fit Kept place) terms))) (subst (λ l. is_name_in Kept l ≡ true) (sym is) took.taken)
      ∙ ap (λ n. nat_le n 8 && list_all (λ b. b) (map (nodes_fit Kept place) terms)) (length-map terms (nodes_fit Kept place))
      ∙ ap (λ b. b && list_all (λ b. b) (map (nodes_fit Kept place) terms)) (few_fit (length terms) row.few)
      ∙ each_fits place level (nodes + 1) terms more row.fits;
  count = let a = adds_up place level (nodes + 1) terms more row.fits in let b = fold-roll-RawTerm ℕ (λ term. 1 + sum term.args) (record { head = Name text; args = terms }) in omega arith;
  few = is_low place level (nodes + 1) terms more (omega arith) row.fits;
  deep = let a = not_deep place level (nodes + 1) terms more (omega arith) row.fits in let b = fold-roll-RawTerm ℕ (λ term. 1 + largest term.args) (record { head = Name text; args = terms }) in omega arith;
}

-- The loop: nothing yet, one more, and the end.
pub row_begins : (nodes : ℕ) (row : Row) (level : ℕ) (ending : Ending) (old : List ℕ) → RowSoFar nodes row level ending old old [] nodes
row_begins nodes row level ending old = record { text = refl; walked = λ rest. refl; fits = refl; few = none row }
  where
    none : (row : Row) → IsFew row 0
    none r.Sorts = omega arith
    none r.Names = tt
    none (r.Args place) = omega arith
    none r.Values = tt

fit_more : (row : Row) (level nodes : ℕ) (terms : List RawTerm) (mid : ℕ) (term : RawTerm) (more : ℕ) → AllFit row level nodes terms mid
    → Fits (item_place row) level (before_item row mid) term more → AllFit row level nodes (terms ++ term ∷ []) more
fit_more row level nodes [] mid term more h f = (more, subst (λ n. Fits (item_place row) level (before_item row n) term more) h f, refl)
fit_more row level nodes (first ∷ terms) mid term more h f = (h.0, h.1, fit_more row level h.0 terms mid term more h.2 f)

pub one_more : {A : Type 0} (xs : List A) (x : A) → length (xs ++ x ∷ []) ≡ length xs + 1
one_more xs x = length-append xs (x ∷ [])

pub still_few : (row : Row) (n m : ℕ) → m ≡ n + 1 → HasRoom row n → IsFew row m
still_few r.Sorts n m e h = omega arith
still_few r.Names n m e h = tt
still_few (r.Args place) n m e h = omega arith
still_few r.Values n m e h = tt

pub row_more : (nodes : ℕ) (row : Row) (level : ℕ) (ending : Ending) (old one two new : List ℕ) (terms : List RawTerm) (mid : ℕ) (term : RawTerm) (more : ℕ)
    → RowSoFar nodes row level ending old one terms mid → RowGoes mid row level (length terms) ending one two → ItemRead mid row level (length terms) ending two new term more
    → RowSoFar nodes row level ending old new (terms ++ term ∷ []) more
row_more nodes row level ending old one two new terms mid term more so goes item = record {
  text = so.text ∙ ap (λ l. spaced (map arg_spelling terms) ++ l) (goes.text ∙ ap (λ l. 32 ∷ l) item.text)
      ∙ sym (append_assoc (spaced (map arg_spelling terms)) (32 ∷ arg_spelling term) new)
      ∙ ap (λ l. l ++ new) (spaced_one (map arg_spelling terms) (arg_spelling term) ∙ ap spaced (sym (map-append arg_spelling terms (term ∷ []))));
  walked = λ rest. so.walked rest ∙ goes.walked rest ∙ item.walked rest ∙ ap (λ n. walk more (w.Row row level n ending ∷ rest) (pieces new)) (sym (one_more terms term));
  fits = fit_more row level nodes terms mid term more so.fits item.fits;
  few = still_few row (length terms) (length (terms ++ term ∷ [])) (one_more terms term) item.room;
}
  where
    spaced_one : (ws : List (List ℕ)) (last : List ℕ) → spaced ws ++ (32 ∷ last) ≡ spaced (ws ++ last ∷ [])
    spaced_one ws last = ap (λ l. spaced ws ++ l) (sym (append-nil (32 ∷ last))) ∙ sym (spaced_append ws (last ∷ []))

pub row_read : (nodes : ℕ) (row : Row) (level : ℕ) (ending : Ending) (old one new : List ℕ) (terms : List RawTerm) (mid : ℕ)
    → RowSoFar nodes row level ending old one terms mid → RowEnds mid row level (length terms) ending one new → RowRead nodes row level ending old new terms mid
row_read nodes row level ending old one new terms mid so end = record {
  text = so.text ∙ ap (λ l. spaced (map arg_spelling terms) ++ l) end.text;
  walked = λ rest. so.walked rest ∙ end.walked rest;
  fits = so.fits;
  few = so.few;
  some = end.some;
}

pub row_marked : (nodes : ℕ) (row : Row) (level : ℕ) (ending : Ending) (old one two new : List ℕ) (terms : List RawTerm) (mid : ℕ)
    → RowSoFar nodes row level ending old one terms mid → RowGoes mid row level (length terms) ending one two → MarkRead mid row level (length terms) ending two new
    → RowRead nodes row level ending old new terms mid
row_marked nodes row level ending old one two new terms mid so goes mark = record {
  text = so.text ∙ ap (λ l. spaced (map arg_spelling terms) ++ l) (goes.text ∙ mark.text);
  walked = λ rest. so.walked rest ∙ goes.walked rest ∙ mark.walked rest;
  fits = so.fits;
  few = so.few;
  some = mark.some;
}

-- The same steps as the code has them.
pub bracket_stops : (nodes : ℕ) (place : Place) (level : ℕ) (old mid bytes : List ℕ) (stop : Stop) → TookWord nodes w.Head old mid bytes
    → ((rest : List Want) → Stops stop (walk (nodes + 1) (w.Row (r.Args place) level 0 e.Bracket ∷ rest) (pieces mid)))
    → (rest : List Want) → Stops stop (walk nodes (w.Head ∷ w.Row (r.Args place) level 0 e.Bracket ∷ rest) (pieces old))
bracket_stops nodes place level old mid bytes stop took h rest =
    stops_later stop _ _ (goes_on nodes w.Head old mid (word bytes) took.first took.taken (w.Row (r.Args place) level 0 e.Bracket ∷ rest)) (h rest)

pub item_stops : (nodes : ℕ) (row : Row) (level count : ℕ) (ending : Ending) (old mid : List ℕ) (stop : Stop) (before : ℕ) (place : Place)
    → before ≡ before_item row nodes → place ≡ item_place row → Took nodes (w.Item row level count ending) old mid t.Open
    → ((rest : List Want) → Stops stop (walk before (w.Head ∷ w.Row (r.Args place) (level + 1) 0 e.Bracket ∷ rest) (pieces mid)))
    → (rest : List Want) → Stops stop (walk nodes (w.Item row level count ending ∷ rest) (pieces old))
item_stops nodes row level count ending old mid stop before place eb ep took h rest =
    stops_later stop _ _ (goes_on nodes (w.Item row level count ending) old mid opening took.first took.taken rest
    ∙ ap (λ n. walk n (w.Head ∷ w.Row (r.Args (item_place row)) (level + 1) 0 e.Bracket ∷ w.Row row level (count + 1) ending ∷ rest) (pieces mid)) (sym eb)
    ∙ ap (λ p. walk before (w.Head ∷ w.Row (r.Args p) (level + 1) 0 e.Bracket ∷ w.Row row level (count + 1) ending ∷ rest) (pieces mid)) (sym ep))
    (h (w.Row row level (count + 1) ending ∷ rest))

pub item_bracket : (nodes : ℕ) (row : Row) (level count : ℕ) (ending : Ending) (old mid new : List ℕ) (term : RawTerm) (more before : ℕ) (place : Place)
    → before ≡ before_item row nodes → place ≡ item_place row → IsTermRow row level
    → Took nodes (w.Item row level count ending) old mid t.Open → BracketRead before place (level + 1) mid new term more
    → ItemRead nodes row level count ending old new term more
item_bracket nodes row level count ending old mid new term more before place eb ep is_row took read =
    item_opened nodes row level count ending old mid new term more is_row took
    (subst (λ n. BracketRead n (item_place row) (level + 1) mid new term more) eb (subst (λ p. BracketRead before p (level + 1) mid new term more) ep read))

pub item_leaf : (nodes : ℕ) (row : Row) (level count : ℕ) (ending : Ending) (old new bytes : List ℕ) (head : RawHead) (args : List RawTerm) (before : ℕ) (place : Place)
    → before ≡ before_item row nodes → place ≡ item_place row → args ≡ [] → IsTermRow row level → TookWord nodes (w.Item row level count ending) old new bytes
    → is_mark ending bytes ≡ false → AtomRead Kept place bytes head → ItemRead nodes row level count ending old new (roll-RawTerm (record { head = head; args = args })) (before + 1)
item_leaf nodes row level count ending old new bytes head args before place eb ep none is_row took h atom =
    subst (λ n. ItemRead nodes row level count ending old new (roll-RawTerm (record { head = head; args = args })) (n + 1)) (sym eb)
    (subst (λ l. ItemRead nodes row level count ending old new (roll-RawTerm (record { head = head; args = l })) (before_item row nodes + 1)) (sym none)
    (item_word nodes row level count ending old new bytes head is_row took.first took.text took.taken h (subst (λ p. AtomRead Kept p bytes head) ep atom)))

pub goes_of : (nodes : ℕ) (row : Row) (level count n : ℕ) (ending : Ending) (old new : List ℕ) (b : Bool) → RowStep nodes row level count ending old new b → b ≡ true → count ≡ n
    → RowGoes nodes row level n ending old new
goes_of nodes row level count n ending old new b step h e =
    subst (λ k. RowGoes nodes row level k ending old new) e (subst (λ x. RowStep nodes row level count ending old new x) h step)

pub shorter : (one two new mid : List ℕ) → one ≡ 32 ∷ two → two ≡ mid ++ new → length new ≤ length one
shorter one two new mid e f = let a = ap length e in let b = ap length f in let c = length-append mid new in omega arith

pub row_kept : (nodes : ℕ) (row : Row) (level : ℕ) (ending : Ending) (old one two new : List ℕ) (terms pushed : List RawTerm) (mid : ℕ) (term : RawTerm) (more : ℕ) (k : ℕ)
    → RowSoFar nodes row level ending old one terms mid → length one ≤ length old → RowGoes mid row level (length terms) ending one two
    → ItemRead mid row level k ending two new term more → k ≡ length terms → pushed ≡ terms ++ term ∷ []
    → record { low : more ≤ 4096; shorter : length new ≤ length old; so_far : RowSoFar nodes row level ending old new pushed more }
row_kept nodes row level ending old one two new terms pushed mid term more k so short goes item e is = record {
  low = item.fits.few;
  shorter = let s = shorter one two new (arg_spelling term) goes.text item.text in omega arith;
  so_far = subst (λ l. RowSoFar nodes row level ending old new l more) (sym is)
      (row_more nodes row level ending old one two new terms mid term more so goes (subst (λ n. ItemRead mid row level n ending two new term more) e item));
}
