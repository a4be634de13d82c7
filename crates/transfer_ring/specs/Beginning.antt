-- What beginning a transfer comes to: it is in flight, or handed back.
use Rattle.std.specs.Prelude.{◌≡◌, List, [], ◌∷◌, ◌++◌, ⊤}
use Rattle.transfer_ring.specs.declared.transfer.Transfer.{Transfer}
use Rattle.transfer_ring.specs.declared.transfer.Begun.{Begun}
use Rattle.transfer_ring.specs.declared.transfer.Begun.TheVariants.{Ok, RingFull}

-- the transfer is in flight after the others, or it is handed back, and nothing changes, where 16 are
abbrev pub Begins : List Transfer → Transfer → List Transfer → Begun → Type 0
Begins old transfer new Ok = (new ≡ old ++ transfer ∷ [])
Begins old transfer new (RingFull back) = (back ≡ transfer) × (new ≡ old)

-- whether it is handed back
abbrev pub IsRefused : Begun → Type 0
IsRefused Ok = ⊥
IsRefused (RingFull back) = ⊤
