-- The sizes of bodies.
use Rattle.std.proofs.Common.{◌≡◌, ℕ, ◌+◌, ◌≤◌, List, [], ◌∷◌, length, map, ap, ◌∙◌, arith}
use Rattle.law_sig.specs.Lists.{total}
use Rattle.law_sig.specs.Bodies.{body_nodes, body_nodes_step}
use Rattle.law_sig.specs.declared.tree.SymId.{SymId}
use Rattle.law_sig.specs.declared.tree.Body.{Body}
use Rattle.law_sig.specs.declared.tree.Body.TheOpen as b
use Rattle.law_sig.specs.declared.tree.Body.TheViews.{out-Body}
use Rattle.law_sig.specs.declared.tree.Body.TheFolds.{map-Body, fold_out-Body}

nodes_at : (body : Body) (layer : b.Body-F Body) → out-Body body ≡ layer → body_nodes body ≡ body_nodes_step (map-Body Body ℕ body_nodes layer)
nodes_at body layer o = fold_out-Body ℕ body_nodes_step body ∙ ap (λ l. body_nodes_step (map-Body Body ℕ body_nodes l)) o

pub nodes-Make : (body : Body) (f : SymId) (args : List Body) → out-Body body ≡ b.Make f args → body_nodes body ≡ 1 + total (map body_nodes args)
nodes-Make body f args o = nodes_at body (b.Make f args) o

pub nodes-Call : (body : Body) (f : SymId) (args : List Body) → out-Body body ≡ b.Call f args → body_nodes body ≡ 1 + total (map body_nodes args)
nodes-Call body f args o = nodes_at body (b.Call f args) o

-- a body has a node
pub some_nodes : (body : Body) → 1 ≤ body_nodes body
some_nodes body = by (out-Body body) (nodes_at body (out-Body body) (λ i. out-Body body))
  where
    by : (layer : b.Body-F Body) → body_nodes body ≡ body_nodes_step (map-Body Body ℕ body_nodes layer) → 1 ≤ body_nodes body
    by (b.Field k) e = omega arith
    by (b.Param k) e = omega arith
    by (b.Make f args) e = omega arith
    by (b.Call f args) e = omega arith

-- bodies are no more than their nodes
pub few_bodies : (bodies : List Body) → length bodies ≤ total (map body_nodes bodies)
few_bodies [] = omega arith
few_bodies (body ∷ bodies) = omega (arith, some_nodes body, few_bodies bodies)
