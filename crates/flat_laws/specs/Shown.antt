-- Bytes of some pages alone, and the call of an instruction.
use Rattle.std.specs.Prelude.{◌≡◌, true, List, [], ◌∷◌, ℤ, Option, Some, None}
use Rattle.vm_facts.specs.Answers.{ByteWrite}
use Rattle.flat_state.specs.Space.{Space, address_in}
use Rattle.vm_facts.specs.declared.page.Page.{Page}
use Rattle.flat_state.specs.PageNames.{is_among}
use Rattle.user_vax.specs.Effects.{Effect}
use Rattle.flat_model.specs.declared.calls.SystemCall.{SystemCall}
use Rattle.flat_model.specs.Calls.{call_of}
use Rattle.flat_model.specs.Touched.{page_tested}

-- one of these pages
abbrev pub IsOneOf : List Page → Option Page → Type 0
IsOneOf pages None = ⊥
IsOneOf pages (Some q) = is_among q pages ≡ true

-- each of these bytes that are written is of one of these pages
abbrev pub AreOf : Space → List Page → List ByteWrite → Type 0
AreOf s pages [] = Unit {0}
AreOf s pages (w ∷ ws) = IsOneOf pages (page_tested s (address_in s w.address)) × AreOf s pages ws

-- the instruction with this effect makes this call
pub record IsCallOf (effect : Effect) (call : SystemCall) : Type 0 where
  pub number : ℤ
  pub is_number : effect.call ≡ Some number
  pub names : call_of number ≡ Some call
