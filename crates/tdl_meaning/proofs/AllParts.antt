-- What holds of all nodes by number, and a host at a place among parts.
use Rattle.std.proofs.Common.{◌≡◌, ℕ, zero, suc, ◌+◌, List, [], ◌∷◌, Some, ap, subst, subst₂, arith}
use Rattle.std.specs.Prelude.{slice_get, unwrap_or}
use Rattle.tdl_verify.specs.States.{Part, NodeNow, HostNow}
use Rattle.tdl_image.specs.declared.hosted.Hosted.{Hosted}
use Rattle.tdl_meaning.specs.AllItems.{AllNodes}

-- so it holds of the node at a place
pub node-at : (P : ℕ → NodeNow → Type 0) (k : ℕ) (nodes : List NodeNow) → AllNodes P k nodes →
    (j : ℕ) (n : NodeNow) → slice_get nodes j ≡ Some n → P (k + j) n
node-at P k [] as' j n at = absurd (cc at)
node-at P k (m ∷ more) as' zero n at =
    let z : k ≡ k + 0 = omega arith in subst₂ (λ c d. P c d) z (ap (λ o. unwrap_or o m) at) as'.0
node-at P k (m ∷ more) as' (suc j) n at =
    let z : suc k + j ≡ k + suc j = omega arith in subst (λ c. P c n) z (node-at P (suc k) more as'.1 j n at)

-- the tables of a host, or those given
abbrev pub host_of : Hosted → Part → Hosted
host_of d (Part.Host h s) = h
host_of d (Part.Outside q t) = d

-- a host with these tables stands at place n
pub record WasHost (parts : List Part) (n : ℕ) (h : Hosted) : Type 0 where
  pub state : HostNow
  pub at : slice_get parts n ≡ Some (Part.Host h state)
