-- The tables of a machine that begins, with no process.
use Rattle.std.specs.Prelude.{ℕ, List, [], ◌∷◌, replicate}
use Rattle.aout_image.specs.declared.Image.{Image}
use Rattle.aout_image.specs.Image.{IsSound}
use Rattle.page_model.specs.PageBytes.{zeros}
use Rattle.kernel_model.specs.Kernel.{Kernel}
use Rattle.kernel_model.specs.Start.{new_kernel}

-- zeros are in each frame
abbrev pub fresh_kernel : List Image → ℕ → Kernel
fresh_kernel facts frames = new_kernel facts frames (replicate frames zeros)

-- each of these headers is that of a sound image
abbrev pub AreSound : List Image → Type 0
AreSound [] = Unit {0}
AreSound (facts ∷ more) = IsSound facts × AreSound more
