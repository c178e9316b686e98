-- Rows of names, and whole terms.
use Rattle.std.proofs.Common.{◌≡◌, ℕ, ◌+◌, ◌≤◌, Bool, true, false, ◌&&◌, List, [], ◌∷◌, ◌++◌, refl, ap, sym, subst, ◌∙◌, arith, map, length, sum, nat_le}
use Rattle.std.proofs.lemmas.Bool.Decides.{nat_tests}
use Rattle.std.proofs.lemmas.List.{append_assoc, length-map, append-nil}
use Rattle.std.specs.List.{list_all}
use Rattle.law_lines.specs.Words.{is_word_of_letters}
use Rattle.law_lines.specs.Pieces.{pieces}
use Rattle.law_lines.specs.Pieces.Piece.{word}
use Rattle.law_lines.specs.declared.raw.RawHead.{RawHead}
use Rattle.law_lines.specs.declared.raw.RawHead.TheVariants.{Name}
use Rattle.law_lines.specs.declared.raw.RawTerm.{RawTerm}
use Rattle.law_lines.specs.declared.raw.RawTerm.TheOpen.{RawTerm-F}
use Rattle.law_lines.specs.declared.raw.RawTerm.TheFolds.{fold-roll-RawTerm}
use Rattle.law_lines.specs.declared.raw.RawTerm.TheViews.{roll-RawTerm, out-roll-RawTerm}
use Rattle.law_lines.specs.declared.want.Want.{Want}
use Rattle.law_lines.specs.declared.want.Want.TheVariants as w
use Rattle.law_lines.specs.declared.want.Bounds.TheVariants.{Kept}
use Rattle.law_lines.specs.declared.want.Place.{Place}
use Rattle.law_lines.specs.declared.want.Row.{Row}
use Rattle.law_lines.specs.declared.want.Row.TheVariants as r
use Rattle.law_lines.specs.declared.want.Ending.{Ending}
use Rattle.law_lines.specs.declared.want.Ending.TheVariants as e
use Rattle.law_lines.specs.declared.error.Stop.{Stop}
use Rattle.law_lines.specs.Spelling.{arg_spelling, spaced, head_spelling, term_spelling}
use Rattle.law_lines.specs.Terms.{nodes_fit, node_fits, largest, is_name_in}
use Rattle.law_lines.specs.Walk.{walk, behind, is_mark, is_item, may_come, item_moved, root_moved}
use Rattle.law_lines.specs.Reads.{Stops, TookWord}
use Rattle.law_lines.specs.Rows.{RowEnds, RowGoes, MarkRead, HasRoom, IsFew, RowRead, RootRead, BehindRead, AtomRead, NameRead, NamesSoFar, NamesRead, IsNameRow, IsRootEnding, closer, nodes_behind}
use Rattle.law_lines.proofs.Walks.{goes_on}
use Rattle.law_lines.proofs.Cuts.{name_taken}
use Rattle.law_lines.proofs.Spaced.{spaced_append}
use Rattle.law_lines.proofs.RowSteps.{both, taken_item, leaf_fits, leaf_count, leaf_depth}
use Rattle.law_places.proofs.RowWhole.{stops_later, each_fits, adds_up, is_low, not_deep, few_fit, one_more, still_few, shorter}

-- one name of a row
name_room : (nodes : ℕ) (row : Row) (count : ℕ) → IsNameRow row → may_come Kept nodes row 0 count ≡ true → HasRoom row count
name_room nodes r.Sorts count row h = grind (arith, nat_tests)
name_room nodes r.Names count row h = tt
name_room nodes (r.Args place) count row h = absurd row
name_room nodes r.Values count row h = absurd row

name_named : (row : Row) (bytes : List ℕ) → IsNameRow row → is_item Kept row bytes ≡ true → is_name_in Kept bytes ≡ true
name_named r.Sorts bytes row h = h
name_named r.Names bytes row h = h
name_named (r.Args place) bytes row h = absurd row
name_named r.Values bytes row h = absurd row

name_moved : (nodes : ℕ) (row : Row) (count : ℕ) (ending : Ending) (rest : List Want) (new : List ℕ) → IsNameRow row
    → walk (item_moved false nodes row 0 count ending rest).nodes (item_moved false nodes row 0 count ending rest).wants (pieces new) ≡ walk 1 (w.Row row 0 (count + 1) ending ∷ rest) (pieces new)
name_moved nodes r.Sorts count ending rest new row = refl
name_moved nodes r.Names count ending rest new row = refl
name_moved nodes (r.Args place) count ending rest new row = absurd row
name_moved nodes r.Values count ending rest new row = absurd row

pub name_read : (nodes : ℕ) (row : Row) (count : ℕ) (ending : Ending) (old new bytes text : List ℕ) → IsNameRow row → TookWord nodes (w.Item row 0 count ending) old new bytes
    → is_mark ending bytes ≡ false → text ≡ bytes → NameRead nodes row count ending old new text
name_read nodes row count ending old new bytes text is_row took h is =
    let b = both (may_come Kept nodes row 0 count) (is_item Kept row bytes) (taken_item _ _ took.taken h) in
    record {
      text = took.text ∙ ap (λ l. l ++ new) (sym is);
      walked = λ rest. goes_on nodes (w.Item row 0 count ending) old new (word bytes) took.first took.taken rest
          ∙ ap (λ x. walk (item_moved x nodes row 0 count ending rest).nodes (item_moved x nodes row 0 count ending rest).wants (pieces new)) h
          ∙ name_moved nodes row count ending rest new is_row;
      named = subst (λ l. is_name_in Kept l ≡ true) (sym is) (name_named row bytes is_row b.1);
      room = name_room nodes row count is_row b.0;
    }

pub names_begin : (row : Row) (ending : Ending) (old : List ℕ) → NamesSoFar 0 row ending old old []
names_begin row ending old = record { text = refl; walked = λ rest. refl; each = refl; few = none row }
  where
    none : (row : Row) → IsFew row 0
    none r.Sorts = omega arith
    none r.Names = tt
    none (r.Args place) = omega arith
    none r.Values = tt

all_more : (xs : List (List ℕ)) (x : List ℕ) → list_all (is_name_in Kept) xs ≡ true → is_name_in Kept x ≡ true → list_all (is_name_in Kept) (xs ++ x ∷ []) ≡ true
all_more [] x h g = ap (λ b. b && true) g
all_more (y ∷ xs) x h g = let b = both (is_name_in Kept y) (list_all (is_name_in Kept) xs) h in ap (λ t. t && list_all (is_name_in Kept) (xs ++ x ∷ [])) b.0 ∙ all_more xs x b.1 g

pub names_kept : (nodes : ℕ) (row : Row) (ending : Ending) (old one two new : List ℕ) (found pushed : List (List ℕ)) (name : List ℕ) (k : ℕ)
    → NamesSoFar nodes row ending old one found → length one ≤ length old → RowGoes nodes row 0 (length found) ending one two
    → NameRead nodes row k ending two new name → k ≡ length found → pushed ≡ found ++ name ∷ []
    → record { shorter : length new ≤ length old; so_far : NamesSoFar 1 row ending old new pushed }
names_kept nodes row ending old one two new found pushed name k so short goes read e is =
    let item = subst (λ n. NameRead nodes row n ending two new name) e read in
    record {
      shorter = let s = shorter one two new name goes.text read.text in omega arith;
      so_far = subst (λ l. NamesSoFar 1 row ending old new l) (sym is) (record {
        text = so.text ∙ ap (λ l. spaced found ++ l) (goes.text ∙ ap (λ l. 32 ∷ l) item.text)
            ∙ sym (append_assoc (spaced found) (32 ∷ name) new)
            ∙ ap (λ l. l ++ new) (ap (λ l. spaced found ++ l) (sym (append-nil (32 ∷ name))) ∙ sym (spaced_append found (name ∷ [])));
        walked = λ rest. so.walked rest ∙ goes.walked rest ∙ item.walked rest ∙ ap (λ n. walk 1 (w.Row row 0 n ending ∷ rest) (pieces new)) (sym (one_more found name));
        each = all_more found name so.each item.named;
        few = still_few row (length found) (length (found ++ name ∷ [])) (one_more found name) item.room;
      });
    }

behind_zero : (ending : Ending) (nodes : ℕ) → IsRootEnding ending → nodes_behind ending nodes ≡ 0
behind_zero e.Line nodes h = refl
behind_zero e.Bracket nodes h = absurd h
behind_zero (e.Mark mark) nodes h = refl

pub names_end : (nodes : ℕ) (row : Row) (ending : Ending) (old one new : List ℕ) (found : List (List ℕ)) (k : ℕ) → IsRootEnding ending → k ≡ length found
    → NamesSoFar nodes row ending old one found → RowEnds nodes row 0 k ending one new → NamesRead row ending old new found
names_end nodes row ending old one new found k root e so ends =
    let end = subst (λ n. RowEnds nodes row 0 n ending one new) e ends in
    record {
      text = so.text ∙ ap (λ l. spaced found ++ l) end.text;
      walked = λ rest. so.walked rest ∙ end.walked rest ∙ ap (λ n. walk n rest (pieces new)) (behind_zero ending nodes root);
      each = so.each;
      few = so.few;
    }

pub names_marked : (nodes : ℕ) (row : Row) (ending : Ending) (old one two new : List ℕ) (found : List (List ℕ)) (k : ℕ) → IsRootEnding ending → k ≡ length found
    → NamesSoFar nodes row ending old one found → RowGoes nodes row 0 (length found) ending one two → MarkRead nodes row 0 k ending two new → NamesRead row ending old new found
names_marked nodes row ending old one two new found k root e so goes marks =
    let mark = subst (λ n. MarkRead nodes row 0 n ending two new) e marks in
    record {
      text = so.text ∙ ap (λ l. spaced found ++ l) (goes.text ∙ mark.text);
      walked = λ rest. so.walked rest ∙ goes.walked rest ∙ mark.walked rest ∙ ap (λ n. walk n rest (pieces new)) (behind_zero ending nodes root);
      each = so.each;
      few = so.few;
    }

-- the words of a term that was put together
pub term_is : (layer : RawTerm-F RawTerm) → term_spelling (roll-RawTerm layer) ≡ head_spelling layer.head ++ spaced (map arg_spelling layer.args)
term_is layer = ap (λ l. head_spelling l.head ++ spaced (map arg_spelling l.args)) (out-roll-RawTerm layer)

-- A whole term: a name and its arguments, or another atom.
low_test : (n k : ℕ) → n ≤ k → nat_le n k ≡ true
low_test n k h = grind (arith, nat_tests)

pub root_named : (place : Place) (ending : Ending) (old mid new bytes text : List ℕ) (terms : List RawTerm) (more : ℕ) → IsRootEnding ending
    → TookWord 0 (w.Root place ending) old mid bytes → is_word_of_letters bytes ≡ true → text ≡ bytes
    → RowRead 1 (r.Args place) 2 ending mid new terms more → RootRead place ending old new (roll-RawTerm (record { head = Name text; args = terms }))
root_named place ending old mid new bytes text terms more root took letters is row = record {
  text = took.text ∙ ap (λ l. l ++ mid) (sym is) ∙ ap (λ l. text ++ l) row.text ∙ sym (append_assoc text (spaced (map arg_spelling terms)) (closer ending ++ new))
      ∙ ap (λ l. l ++ (closer ending ++ new)) (sym (term_is (record { head = Name text; args = terms })));
  walked = λ rest. goes_on 0 (w.Root place ending) old mid (word bytes) took.first took.taken rest
      ∙ ap (λ b. walk (root_moved b place ending rest).nodes (root_moved b place ending rest).wants (pieces mid)) letters
      ∙ row.walked rest ∙ ap (λ n. walk n rest (pieces new)) (behind_zero ending more root);
  is_term = record {
    nodes = fold-roll-RawTerm Bool (node_fits Kept place) (record { head = Name text; args = terms })
        ∙ ap (λ b. b && (nat_le (length (map (nodes_fit Kept place) terms)) 8 && list_all (λ b. b) (map (nodes_fit Kept place) terms))) (subst (λ l. is_name_in Kept l ≡ true) (sym is) (name_taken place bytes took.taken letters))
        ∙ ap (λ n. nat_le n 8 && list_all (λ b. b) (map (nodes_fit Kept place) terms)) (length-map terms (nodes_fit Kept place))
        ∙ ap (λ b. b && list_all (λ b. b) (map (nodes_fit Kept place) terms)) (few_fit (length terms) row.few)
        ∙ each_fits place 2 1 terms more row.fits;
    size = let a = adds_up place 2 1 terms more row.fits in let c = is_low place 2 1 terms more (omega arith) row.fits in
        let b = fold-roll-RawTerm ℕ (λ term. 1 + sum term.args) (record { head = Name text; args = terms }) in low_test _ 4096 (omega arith);
    deep = let a = not_deep place 2 1 terms more (omega arith) row.fits in
        let b = fold-roll-RawTerm ℕ (λ term. 1 + largest term.args) (record { head = Name text; args = terms }) in low_test _ 256 (omega arith);
  };
}

pub root_leaf : (place : Place) (ending : Ending) (old mid new bytes : List ℕ) (head : RawHead) (args : List RawTerm) → TookWord 0 (w.Root place ending) old mid bytes
    → is_word_of_letters bytes ≡ false → AtomRead Kept place bytes head → args ≡ [] → BehindRead ending mid new → RootRead place ending old new (roll-RawTerm (record { head = head; args = args }))
root_leaf place ending old mid new bytes head args took letters atom none behind_it =
    subst (λ l. RootRead place ending old new (roll-RawTerm (record { head = head; args = l }))) (sym none) (record {
      text = took.text ∙ ap (λ l. l ++ mid) (sym atom.text ∙ sym (append-nil (head_spelling head))) ∙ ap (λ l. (head_spelling head ++ []) ++ l) behind_it.text
          ∙ ap (λ l. l ++ (closer ending ++ new)) (sym (term_is (record { head = head; args = [] })));
      walked = λ rest. goes_on 0 (w.Root place ending) old mid (word bytes) took.first took.taken rest
          ∙ ap (λ b. walk (root_moved b place ending rest).nodes (root_moved b place ending rest).wants (pieces mid)) letters ∙ behind_it.walked rest;
      is_term = record {
        nodes = leaf_fits place head atom.fits;
        size = let a = leaf_count head in low_test _ 4096 (omega arith);
        deep = let a = leaf_depth head in low_test _ 256 (omega arith);
      };
    })

pub root_stops : (place : Place) (ending : Ending) (old mid bytes : List ℕ) (stop : Stop) → TookWord 0 (w.Root place ending) old mid bytes → is_word_of_letters bytes ≡ true
    → ((rest : List Want) → Stops stop (walk 1 (w.Row (r.Args place) 2 0 ending ∷ rest) (pieces mid))) → (rest : List Want) → Stops stop (walk 0 (w.Root place ending ∷ rest) (pieces old))
root_stops place ending old mid bytes stop took letters h rest =
    stops_later stop _ _ (goes_on 0 (w.Root place ending) old mid (word bytes) took.first took.taken rest
    ∙ ap (λ b. walk (root_moved b place ending rest).nodes (root_moved b place ending rest).wants (pieces mid)) letters) (h rest)

pub leaf_stops : (place : Place) (ending : Ending) (old mid bytes : List ℕ) (stop : Stop) → TookWord 0 (w.Root place ending) old mid bytes → is_word_of_letters bytes ≡ false
    → ((rest : List Want) → Stops stop (walk 0 (behind ending rest) (pieces mid))) → (rest : List Want) → Stops stop (walk 0 (w.Root place ending ∷ rest) (pieces old))
leaf_stops place ending old mid bytes stop took letters h rest =
    stops_later stop _ _ (goes_on 0 (w.Root place ending) old mid (word bytes) took.first took.taken rest
    ∙ ap (λ b. walk (root_moved b place ending rest).nodes (root_moved b place ending rest).wants (pieces mid)) letters) (h rest)
