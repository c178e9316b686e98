-- Each law is proved by a lemma.
use Rattle.law_rewriting.proofs.Rooted.{match_applies, match_fails, no_match_fails, candidate_first, candidates_fail}
use Rattle.law_rewriting.proofs.root_laws.Goals as goal

pub returns : goal.returns
returns c = record {
  matches = λ parts q d t. record {
    applies = λ n matched binds m f less. match_applies parts q d t matched binds m f n less;
    falls_not = λ matched binds m f not_less. match_fails parts q d t matched binds m f not_less;
    matches_not = no_match_fails parts q d t;
  };
  candidates = λ parts rules t cs h. record { first = candidate_first parts rules t cs h; none = candidates_fail parts rules t cs h };
}
