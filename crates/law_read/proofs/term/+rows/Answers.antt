use Rattle.std.proofs.Common.{rules, ◌≡◌, length, sym, subst, true}
use Rattle.law_lines.specs.Walk.{is_atom}
use Rattle.law_lines.specs.declared.want.Bounds.TheVariants.{Kept}
use Rattle.law_lines.proofs.RowSteps.{mark_read, word_is_atom}
use Rattle.law_places.proofs.RowWhole.{bracket_read, bracket_stops, item_stops, item_bracket, item_leaf, goes_of, row_kept}
use Rattle.law_read.proofs.term.+rows.Goals as goal

pub args-loop-found-preserved : goal.args-loop-found-preserved
args-loop-found-preserved t c =
    let so = c.loop-found.invariant in
    row_kept c.args.nodes c.args.row c.args.level c.args.ending c.args.line.now.left c.loop-found.line.left c.more.new.line.left c.item.new.line.left
    c.loop-found.found c.push.new.self c.loop-found.total c.in-Some.term c.in-Some.more c.len-in-loop-found.result
    so.so_far so.shorter
    (goes_of c.loop-found.total c.args.row c.args.level c.len.result (length c.loop-found.found) c.args.ending c.loop-found.line.left c.more.new.line.left c.in_ok-more.field-0 c.in_ok-more.ensures c.if-not-branch.false c.len.ensures)
    (search rules) c.len-in-loop-found.ensures c.in_ok-push-in-Some.ensures.ok

pub bracket-returns-in-Err : goal.bracket-returns-in-Err
bracket-returns-in-Err t c =
    bracket_stops c.args.nodes c.args.place c.args.level c.args.line.now.left c.word.new.line.left c.in_ok-name.name.now c.in-Err.stop c.in_ok-name.ensures c.in-Err.ensures

pub bracket-returns-in-Ok : goal.bracket-returns-in-Ok
bracket-returns-in-Ok t c =
    bracket_read c.args.nodes c.args.place c.args.level c.args.line.now.left c.word.new.line.left c.args-2.new.line.left c.in_ok-name.name.now c.in_ok-text.text
    c.in-Ok.args c.in-Ok.more c.requires.few c.requires.deep c.in_ok-name.ensures c.in_ok-text.ensures c.in-Ok.ensures

pub item-returns-in-Err : goal.item-returns-in-Err
item-returns-in-Err t c =
    item_stops c.args.nodes c.args.row c.args.level c.args.count c.args.ending c.args.line.now.left c.want.new.line.left c.in-Err.stop c.before_item.result c.item_place.result
    c.before_item.ensures c.item_place.ensures (search rules) c.in-Err.ensures

pub item-returns-in-Ok : goal.item-returns-in-Ok
item-returns-in-Ok t c =
    item_bracket c.args.nodes c.args.row c.args.level c.args.count c.args.ending c.args.line.now.left c.want.new.line.left c.bracket.new.line.left c.in-Ok.term c.in-Ok.more
    c.before_item.result c.item_place.result c.before_item.ensures c.item_place.ensures c.requires.terms (search rules) c.in-Ok.ensures

pub item-returns-then-is_mark : goal.item-returns-then-is_mark
item-returns-then-is_mark t c =
    mark_read c.args.nodes c.args.row c.args.level c.args.count c.args.ending c.args.line.now.left c.want.new.line.left c.in-Some-Word.bytes.now
    (search rules) (search rules) (search rules) (search rules)

pub item-atom-requires : goal.item-atom-requires
item-atom-requires t c =
    subst (λ p. is_atom Kept p c.in-Some-Word.bytes.now ≡ true) (sym c.item_place-in-Some-Word.ensures)
    (word_is_atom c.args.nodes c.args.row c.args.level c.args.count c.args.ending c.in-Some-Word.bytes.now c.requires.terms (search rules) (search rules))

pub item-returns-in_ok-head-in-Some-Word : goal.item-returns-in_ok-head-in-Some-Word
item-returns-in_ok-head-in-Some-Word t c =
    item_leaf c.args.nodes c.args.row c.args.level c.args.count c.args.ending c.args.line.now.left c.want.new.line.left c.in-Some-Word.bytes.now
    c.in_ok-head-in-Some-Word.head c.new.result c.before_item-in-Some-Word.result c.item_place-in-Some-Word.result c.before_item-in-Some-Word.ensures c.item_place-in-Some-Word.ensures
    c.new.ensures c.requires.terms (record { first = search rules; text = search rules; taken = search rules }) (search rules) c.in_ok-head-in-Some-Word.ensures
