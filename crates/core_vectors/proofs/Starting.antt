-- What the start of a core asks for.
use Rattle.std.proofs.Common.{◌≡◌, ℕ, ◌≤◌, List, [], length, map, Option, None, sym, subst}
use Rattle.std.specs.Prelude.{All}
use Rattle.std.proofs.lemmas.List.{length-map}
use Rattle.vm_facts.specs.declared.params.Params.{Params}
use Rattle.io_edge.specs.FileHolding.{NamedFile}
use Rattle.machine_state.specs.Files.{AreFiles}
use Rattle.machine_state.specs.Named.{Named}
use Rattle.machine_state.specs.Machine.{Standing, image_shown}
use Rattle.machine_state.specs.New.{fresh_kernel}
use Rattle.vm_core.specs.Cores.{Underway}
use Rattle.vm_core.specs.Starting.{IsFresh}
use Rattle.core_vectors.specs.Ready.{AreFit, MayStart}

-- a machine as it is made
abbrev pub made : List Named → Params → Standing
made images params = record {
  kernel = fresh_kernel (map (λ (x : Named). x.facts) images) params.frames;
  params = params;
  images = map image_shown images;
  before = [];
  room = None;
}

-- A core that is fresh, of images that fit, may start where its sizes are in their ranges.
pub may_start : (c : Underway) (images : List Named) (params : Params) (first : List ℕ) (holds : Option (List NamedFile)) (blocks : ℕ)
    → IsFresh c → c.machine ≡ made images params → AreFit images holds
    → 64 ≤ params.frames → length first ≤ 16 → params.swap_blocks ≤ blocks → All (λ (n : ℕ). (1 ≤ n) × (n ≤ length images)) first
    → MayStart c first holds blocks
may_start c images params first holds blocks fresh is fit frames few area numbers = record {
  fresh = fresh;
  frames = subst (λ (m : Standing). 64 ≤ m.params.frames) (sym is) frames;
  few = few;
  numbers = subst (λ (m : Standing). All (λ (n : ℕ). (1 ≤ n) × (n ≤ length m.images)) first) (sym is)
      (subst (λ (k : ℕ). All (λ (n : ℕ). (1 ≤ n) × (n ≤ k)) first) (sym (length-map images image_shown)) numbers);
  area = subst (λ (m : Standing). m.params.swap_blocks ≤ blocks) (sym is) area;
  files = subst (λ (m : Standing). AreFiles m.images holds) (sym is) fit.files;
}
