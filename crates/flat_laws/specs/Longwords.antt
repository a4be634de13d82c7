-- Registers are longwords, and what a space holds and an instruction writes are bytes.
use Rattle.std.specs.Prelude.{◌+◌, ◌<◌, ◌^◌, List, [], ◌∷◌, Result, Ok, Err}
use Rattle.vm_facts.specs.Answers.{ByteWrite}
use Rattle.flat_state.specs.Space.{Space}
use Rattle.flat_state.specs.Flat.{Holding, Holds, Lends, Zombie, Process, NamedImage}
use Rattle.flat_state.specs.declared.change.Change.{Change}
use Rattle.flat_state.specs.declared.change.Change.TheVariants.{Exec, End}
use Rattle.vax_code.specs.Grammar.{AreOctets}
use Rattle.user_vax.specs.Effects.{Effect}
use Rattle.user_vax.specs.declared.refused.Refused.{Refused}
use Rattle.user_vax.specs.declared.refused.Refused.TheVariants.{Miss, Below, Signal}
use Rattle.kernel_model.specs.UPage.{AreRegs}

-- text, data and stack are bytes
pub record HasOctets (s : Space) : Type 0 where
  pub text : AreOctets s.text_bytes
  pub «data» : AreOctets s.data_bytes
  pub stack : AreOctets s.stack_bytes

-- the space that a process holds is of bytes; the status with which it ended is a longword
abbrev pub HeldFits : Holding → Type 0
HeldFits (Holds s) = HasOctets s
HeldFits (Lends sid child) = Unit {0}
HeldFits (Zombie status) = status < 2 ^ 32

-- a process's registers are longwords, and what it holds fits
abbrev pub ProcessFits : Process → Type 0
ProcessFits q = AreRegs q.regs × HeldFits q.holding

-- each of these processes has registers that are longwords, and what it holds fits
abbrev pub ProcessesFit : List Process → Type 0
ProcessesFit [] = Unit {0}
ProcessesFit (q ∷ qs) = ProcessFits q × ProcessesFit qs

-- an image starts at a longword, after its entry mask, and its name, text and data are bytes
pub record ImageFits (named : NamedImage) : Type 0 where
  pub entry : named.image.facts.entry + 2 < 2 ^ 32
  pub name : AreOctets named.name
  pub text : AreOctets named.image.text
  pub «data» : AreOctets named.image.data

-- each of these images fits
abbrev pub AllImages : List NamedImage → Type 0
AllImages [] = Unit {0}
AllImages (named ∷ images) = ImageFits named × AllImages images

-- a new image's first stack page is of bytes, and the status with which a process ends is a longword
abbrev pub ChangeFits : Change → Type 0
ChangeFits (Exec image top) = AreOctets top
ChangeFits (End status) = status < 2 ^ 32
ChangeFits _ = Unit {0}

-- what is written are bytes
abbrev pub AreWritten : List ByteWrite → Type 0
AreWritten [] = Unit {0}
AreWritten (w ∷ ws) = (w.byte < 256) × AreWritten ws

-- registers that are longwords, and bytes that are written
abbrev pub EffectFits : Effect → Type 0
EffectFits e = AreRegs e.regs × AreWritten e.writes

-- what an instruction comes to is such an effect, or a signal that is a longword
abbrev pub LeavesLongwords : Result Effect Refused → Type 0
LeavesLongwords (Ok effect) = EffectFits effect
LeavesLongwords (Err (Signal number)) = number < 2 ^ 32
LeavesLongwords (Err (Miss address write)) = Unit {0}
LeavesLongwords (Err (Below address)) = Unit {0}
