-- Each law is proved by a lemma.
use Rattle.law_bank.proofs.BankFacts.{stays, same_tree, same_id, var_tree, sym_tree, key_tree, tree_key, all_stay, grows_none, grows_on, size_is, weight_is, sort_is, sorts_are}
use Rattle.law_bank.proofs.bank_laws.Goals as goal

pub returns : goal.returns
returns c = let a = var_tree in let b = sym_tree in let d = key_tree in let e = tree_key in let f = all_stay in let g = grows_none in let h = grows_on in let i = size_is in let j = weight_is in let k = sort_is in
    record { stays = stays; tree = same_tree; id = same_id; sorts = λ parts f. sorts_are parts.symbols f.0 }
