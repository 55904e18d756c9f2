-- An array of 256 holds no more than 256 entries: a walk and a path fit theirs.
use Rattle.std.specs.Prelude.{◌≡◌, List, ℕ, ◌≤◌, length}
use Rattle.std.proofs.Common.{sym, ap, ◌∙◌, arith, length-append}
use Rattle.std.proofs.lemmas.List.{length-map, length-replicate}
use Rattle.numbers.specs.Arrays.{padded}
use Rattle.graph.specs.declared.walks.PathBranches.{PathBranches}
use Rattle.graph.specs.declared.walks.Walk.{Walk}
use Rattle.graph.specs.Walk.{Visit}
use Rattle.graph.specs.Rows.{filled, walked, path_of}

filled_few : (l : List ℕ) → length (filled l) ≡ 256 → length l ≤ 256
unfolding padded
filled_few l e = omega (arith, simp (length-append, length-replicate) at e)

pub walked_few : (w : Walk) (o : List Visit) → w ≡ walked o → length w.bus ≡ 256 → w.count ≤ 256
unfolding walked
walked_few w o e l =
    let c : w.count ≡ length o = ap (λ (x : Walk). x.count) e in
    let h = filled_few _ (sym (ap (λ (x : Walk). length x.bus) e) ∙ l) in
    omega (arith, simp length-map at h)

pub path_few : (p : PathBranches) (l : List ℕ) → p ≡ path_of l → length p.branch ≡ 256 → p.count ≤ 256
unfolding path_of
path_few p l e h =
    let c : p.count ≡ length l = ap (λ (x : PathBranches). x.count) e in
    omega (arith, filled_few l (sym (ap (λ (x : PathBranches). length x.branch) e) ∙ h))
