-- The units of a journal are units.
use Rattle.std.proofs.Common.{ℕ, suc, zero, List, [], ◌∷◌, refl}
use Rattle.vm_facts.specs.declared.entry.Entry.{Entry}
use Rattle.vm_facts.specs.declared.entry.Entry.TheVariants as entries
use Rattle.flat_state.specs.Journal.{repeated, units_with, units_of, IsUnit, AllUnits as EachUnit}

repeated_are : (u : Entry) (n : ℕ) (us : List Entry) → IsUnit u → EachUnit us → EachUnit (repeated u n us)
repeated_are u zero us k h = h
repeated_are u (suc n) us k h = (k, repeated_are u n us k h)

with_are : (e : Entry) (us : List Entry) → EachUnit us → EachUnit (units_with e us)
with_are (entries.Ran p n) us h = repeated_are (entries.Ran p 1) n us refl h
with_are (entries.Hands n) us h = repeated_are (entries.Hands 1) n us refl h
with_are (entries.Event line) us h = (tt, h)
with_are (entries.Turn pid) us h = (tt, h)
with_are (entries.Out p bytes) us h = (tt, h)
with_are (entries.Grew p n) us h = (tt, h)
with_are (entries.Call p n c r0 r1) us h = (tt, h)
with_are (entries.Refused p) us h = (tt, h)
with_are (entries.Sleeps p) us h = (tt, h)
with_are (entries.Ended p n) us h = (tt, h)
with_are (entries.Zero q) us h = (tt, h)
with_are (entries.Get q lo n) us h = (tt, h)
with_are (entries.Copy q) us h = (tt, h)
with_are (entries.Reclaim q) us h = (tt, h)
with_are (entries.Put q n) us h = (tt, h)
with_are entries.Done us h = (tt, h)
with_are (entries.SwapOut pid) us h = (tt, h)
with_are (entries.SwapIn pid) us h = (tt, h)
with_are (entries.Owners f u m o) us h = (tt, h)

pub units_are : (es : List Entry) → EachUnit (units_of es)
units_are [] = tt
units_are (e ∷ es) = with_are e (units_of es) (units_are es)
