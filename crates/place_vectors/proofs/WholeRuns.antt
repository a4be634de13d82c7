-- Whole runs from the start, unit by unit, as an independent implementation made them.
use Rattle.std.proofs.Common.{◌≡◌, ℕ, zero, suc, true, false, [], ◌∷◌, ◌++◌, List, Option, Some, None, replicate, refl}
use Rattle.vm_facts.specs.declared.page.Page.TheVariants.{Data, Stack, Text}
use Rattle.vm_facts.specs.declared.entry.Entry.{Entry}
use Rattle.vm_facts.specs.declared.entry.Entry.TheVariants.{Zero, Copy, Get, Reclaim, Done, Event, Turn, Owners, Ran, Out, Call, Grew, Refused, Ended}
use Rattle.user_vax.specs.Frames.{procedure_call, with_frame, push_all, saved, registers_returned, procedure_return, unwound, linkage, restored, arguments_dropped}
use Rattle.user_vax.specs.Effects.{pop, pop_into, bytes_at, store_effect, push_onto}
use Rattle.flat_model.specs.Calls.{string_from, arguments_from, execve_reply, image_named, argument, three_arguments, bytes_from, exit_reply, written_to, write_reply, reply_of}
use Rattle.resource_map.specs.Room.{lowest_room, lowest as lowest_of, has_room, all_pass}
use Rattle.vm_facts.specs.declared.event.Event.TheVariants as events
use Rattle.swap_book.specs.Holdings.{Holdings, fit, is_in, is_held, kept}
use Rattle.swap_dmap.specs.Chunks.{pieces, chunk, chunk_start, lowest_below, chunks_holding, chunk_reached, counted_from, last_piece, text_pieces}
use Rattle.flat_model.specs.Asked.{first_held, start_held, or_before, asks, held_step}
use Rattle.aout_image.specs.declared.Kind.TheVariants.{Paged}
use Rattle.flat_state.specs.Flat.{NamedImage, Inputs, argument_area, start_regs}
use Rattle.run_model.specs.State.{State, start}
use Rattle.run_model.specs.After.{after, state_after}
use Rattle.run_model.specs.Next.{next_unit}
use Rattle.run_model.specs.Act.{act}
use Rattle.flat_model.specs.Step.{flat_step}
use Rattle.flat_model.specs.Touched.{distinct, step_accesses, touched}
use Rattle.flat_state.specs.Change.{replaced, returned, apply_change, apply_writes}
use Rattle.flat_state.specs.Space.{spot_at}
use Rattle.swap_book.specs.Placing.{place_all}
use Rattle.user_vax.specs.Computation.{computation}
use Rattle.user_vax.specs.Instruction.{fetch, evaluations, write_tests, tested_effect, execution, execution_by, instruction}
use Rattle.user_vax.specs.Operands.{number_at, address_of, evaluation_at, evaluation_through, evaluation}
use Rattle.vax_code.specs.Reading.{next_byte, next_number as number_read, next_signed, next_displacement, base_at, indexed_at, next_specifier, next_operand, with_count, operand_in_place, next_operands, instruction_at, decoded}
use Rattle.vax_code.specs.Table.{all_rows, row_for}

unfoldable pub more : Option Entry → Inputs → State → (State → List Entry) → List Entry
more None A s next = []
more (Some u) A s next = u ∷ next (after A s u)

-- so many next units from a state on
unfoldable pub units_from : ℕ → Inputs → State → List Entry
units_from zero A s = []
units_from (suc n) A s = more (next_unit A s) A s (units_from n A)

unfoldable pub hi_image : NamedImage
hi_image = record {
  name = 104 ∷ 105 ∷ [];
  image = record {
    facts = record { kind = Paged; text_len = 1024; data_len = 0; bss_len = 0; entry = 0 };
    text = (0 ∷ 0 ∷ 222 ∷ 159 ∷ 32 ∷ 0 ∷ 0 ∷ 0 ∷ 92 ∷ 188 ∷ 4 ∷ 222 ∷ 159 ∷ 48 ∷ 0 ∷ 0 ∷ 0 ∷ 92 ∷ 188 ∷ 1 ∷ 0 ∷ 0 ∷ 0 ∷ 0 ∷ 0 ∷ 0 ∷ 0 ∷ 0 ∷ 0 ∷ 0 ∷ 0 ∷ 0 ∷ 3 ∷ 0 ∷ 0 ∷ 0 ∷ 1 ∷ 0 ∷ 0 ∷ 0 ∷ 56 ∷ 0 ∷ 0
        ∷ 0 ∷ 2 ∷ 0 ∷ 0 ∷ 0 ∷ 1 ∷ 0 ∷ 0 ∷ 0 ∷ 0 ∷ 0 ∷ 0 ∷ 0 ∷ 104 ∷ 105 ∷ []) ++ replicate 966 0;
    «data» = replicate 0 0;
  };
}

auto_image : NamedImage
auto_image = record {
  name = 97 ∷ 117 ∷ 116 ∷ 111 ∷ [];
  image = record {
    facts = record { kind = Paged; text_len = 1024; data_len = 0; bss_len = 2048; entry = 0 };
    text = (0 ∷ 0 ∷ 208 ∷ 143 ∷ 254 ∷ 7 ∷ 0 ∷ 0 ∷ 81 ∷ 208 ∷ 5 ∷ 129 ∷ 208 ∷ 81 ∷ 159 ∷ 4 ∷ 4 ∷ 0 ∷ 0 ∷ 208 ∷ 143 ∷ 0 ∷ 4 ∷ 0 ∷ 0 ∷ 92 ∷ 188 ∷ 1 ∷ []) ++ replicate 996 0;
    «data» = replicate 2048 0;
  };
}

bomb_image : NamedImage
bomb_image = record {
  name = 98 ∷ 111 ∷ 109 ∷ 98 ∷ [];
  image = record {
    facts = record { kind = Paged; text_len = 1024; data_len = 0; bss_len = 0; entry = 0 };
    text = (0 ∷ 0 ∷ 188 ∷ 2 ∷ 17 ∷ 252 ∷ []) ++ replicate 1018 0;
    «data» = replicate 0 0;
  };
}

forky_image : NamedImage
forky_image = record {
  name = 102 ∷ 111 ∷ 114 ∷ 107 ∷ 121 ∷ [];
  image = record {
    facts = record { kind = Paged; text_len = 1024; data_len = 0; bss_len = 1024; entry = 0 };
    text = (0 ∷ 0 ∷ 188 ∷ 2 ∷ 232 ∷ 81 ∷ 10 ∷ 144 ∷ 143 ∷ 112 ∷ 159 ∷ 0 ∷ 4 ∷ 0 ∷ 0 ∷ 17 ∷ 8 ∷ 144 ∷ 143 ∷ 99 ∷ 159 ∷ 0 ∷ 4 ∷ 0 ∷ 0 ∷ 222 ∷ 159 ∷ 48 ∷ 0 ∷ 0 ∷ 0 ∷ 92 ∷ 188 ∷ 4 ∷ 222 ∷ 159 ∷ 64 ∷ 0 ∷ 0
        ∷ 0 ∷ 92 ∷ 188 ∷ 1 ∷ 0 ∷ 0 ∷ 0 ∷ 0 ∷ 0 ∷ 3 ∷ 0 ∷ 0 ∷ 0 ∷ 1 ∷ 0 ∷ 0 ∷ 0 ∷ 0 ∷ 4 ∷ 0 ∷ 0 ∷ 1 ∷ 0 ∷ 0 ∷ 0 ∷ 1 ∷ []) ++ replicate 959 0;
    «data» = replicate 1024 0;
  };
}

calls_image : NamedImage
calls_image = record {
  name = 99 ∷ 97 ∷ 108 ∷ 108 ∷ 115 ∷ [];
  image = record {
    facts = record { kind = Paged; text_len = 1024; data_len = 0; bss_len = 1024; entry = 0 };
    text = (0 ∷ 0 ∷ 221 ∷ 7 ∷ 251 ∷ 1 ∷ 159 ∷ 32 ∷ 0 ∷ 0 ∷ 0 ∷ 208 ∷ 80 ∷ 159 ∷ 4 ∷ 4 ∷ 0 ∷ 0 ∷ 208 ∷ 143 ∷ 0 ∷ 4 ∷ 0 ∷ 0 ∷ 92 ∷ 188 ∷ 1 ∷ 0 ∷ 0 ∷ 0 ∷ 0 ∷ 0 ∷ 4 ∷ 0 ∷ 208 ∷ 172 ∷ 4 ∷ 80 ∷ 208 ∷ 80
        ∷ 82 ∷ 4 ∷ []) ++ replicate 982 0;
    «data» = replicate 1024 0;
  };
}

lendy_image : NamedImage
lendy_image = record {
  name = 108 ∷ 101 ∷ 110 ∷ 100 ∷ 121 ∷ [];
  image = record {
    facts = record { kind = Paged; text_len = 1024; data_len = 0; bss_len = 1024; entry = 0 };
    text = (0 ∷ 0 ∷ 188 ∷ 143 ∷ 66 ∷ 0 ∷ 232 ∷ 81 ∷ 11 ∷ 222 ∷ 159 ∷ 48 ∷ 0 ∷ 0 ∷ 0 ∷ 92 ∷ 188 ∷ 4 ∷ 17 ∷ 8 ∷ 144 ∷ 143 ∷ 99 ∷ 159 ∷ 0 ∷ 4 ∷ 0 ∷ 0 ∷ 222 ∷ 159 ∷ 64 ∷ 0 ∷ 0 ∷ 0 ∷ 92 ∷ 188 ∷ 1 ∷ 0 ∷ 0
        ∷ 0 ∷ 0 ∷ 0 ∷ 0 ∷ 0 ∷ 0 ∷ 0 ∷ 0 ∷ 0 ∷ 3 ∷ 0 ∷ 0 ∷ 0 ∷ 1 ∷ 0 ∷ 0 ∷ 0 ∷ 0 ∷ 4 ∷ 0 ∷ 0 ∷ 1 ∷ 0 ∷ 0 ∷ 0 ∷ 1 ∷ []) ++ replicate 959 0;
    «data» = replicate 1024 0;
  };
}

ex_image : NamedImage
ex_image = record {
  name = 101 ∷ 120 ∷ [];
  image = record {
    facts = record { kind = Paged; text_len = 1024; data_len = 0; bss_len = 0; entry = 0 };
    text = (0 ∷ 0 ∷ 222 ∷ 159 ∷ 32 ∷ 0 ∷ 0 ∷ 0 ∷ 92 ∷ 188 ∷ 59 ∷ 0 ∷ 0 ∷ 0 ∷ 0 ∷ 0 ∷ 0 ∷ 0 ∷ 0 ∷ 0 ∷ 0 ∷ 0 ∷ 0 ∷ 0 ∷ 0 ∷ 0 ∷ 0 ∷ 0 ∷ 0 ∷ 0 ∷ 0 ∷ 0 ∷ 3 ∷ 0 ∷ 0 ∷ 0 ∷ 48 ∷ 0 ∷ 0 ∷ 0 ∷ 0 ∷ 0 ∷ 0 ∷ 0 ∷ 0
        ∷ 0 ∷ 0 ∷ 0 ∷ 104 ∷ 105 ∷ []) ++ replicate 974 0;
    «data» = replicate 0 0;
  };
}

deep_image : NamedImage
deep_image = record {
  name = 100 ∷ 101 ∷ 101 ∷ 112 ∷ [];
  image = record {
    facts = record { kind = Paged; text_len = 1024; data_len = 0; bss_len = 0; entry = 0 };
    text = (0 ∷ 0 ∷ 212 ∷ 159 ∷ 252 ∷ 231 ∷ 255 ∷ 127 ∷ 188 ∷ 1 ∷ []) ++ replicate 1014 0;
    «data» = replicate 0 0;
  };
}

nest_image : NamedImage
nest_image = record {
  name = 110 ∷ 101 ∷ 115 ∷ 116 ∷ [];
  image = record {
    facts = record { kind = Paged; text_len = 1024; data_len = 0; bss_len = 1024; entry = 0 };
    text = (0 ∷ 0 ∷ 188 ∷ 143 ∷ 66 ∷ 0 ∷ 232 ∷ 81 ∷ 11 ∷ 222 ∷ 159 ∷ 80 ∷ 0 ∷ 0 ∷ 0 ∷ 92 ∷ 188 ∷ 4 ∷ 17 ∷ 17 ∷ 188 ∷ 143 ∷ 66 ∷ 0 ∷ 232 ∷ 81 ∷ 2 ∷ 17 ∷ 8 ∷ 144 ∷ 143 ∷ 99 ∷ 159 ∷ 0 ∷ 4 ∷ 0 ∷ 0 ∷ 222
        ∷ 159 ∷ 96 ∷ 0 ∷ 0 ∷ 0 ∷ 92 ∷ 188 ∷ 1 ∷ 0 ∷ 0 ∷ 0 ∷ 0 ∷ 0 ∷ 0 ∷ 0 ∷ 0 ∷ 0 ∷ 0 ∷ 0 ∷ 0 ∷ 0 ∷ 0 ∷ 0 ∷ 0 ∷ 0 ∷ 0 ∷ 0 ∷ 0 ∷ 0 ∷ 0 ∷ 0 ∷ 0 ∷ 0 ∷ 0 ∷ 0 ∷ 0 ∷ 0 ∷ 0 ∷ 0 ∷ 0 ∷ 0 ∷ 0 ∷ 3 ∷ 0 ∷ 0 ∷ 0
        ∷ 1 ∷ 0 ∷ 0 ∷ 0 ∷ 0 ∷ 4 ∷ 0 ∷ 0 ∷ 1 ∷ 0 ∷ 0 ∷ 0 ∷ 1 ∷ []) ++ replicate 927 0;
    «data» = replicate 1024 0;
  };
}

unfoldable pub hi : Inputs
hi = record { images = hi_image ∷ []; file_numbers = 1 ∷ []; first = 1 ∷ []; lines = []; frames = 64; swap_blocks = 256; limit = 100 }

unfoldable pub hi_held : Holdings
hi_held = or_before [] (start_held hi)

abbrev pub hi_units : List Entry
hi_units = Zero (Stack 1 0) ∷ Turn 1 ∷ Get (Text 1 0) 0 1 ∷ Done ∷ Ran 1 1 ∷ Out 1 (104 ∷ 105 ∷ []) ∷ Call 1 4 false 2 0 ∷ Ran 1 1 ∷ Ended 1 0 ∷ []

-- from the start the run makes these units, and no more
pub hi_makes : units_from 10 hi (start hi hi_held) ≡ hi_units
unfolding units_from more hi hi_held hi_image next_unit after state_after act asks held_step flat_step distinct step_accesses touched argument three_arguments bytes_from exit_reply written_to
    write_reply reply_of replaced returned apply_change apply_writes argument_area start_regs spot_at kept place_all computation bytes_at store_effect fetch evaluations write_tests tested_effect
    execution execution_by instruction number_at address_of evaluation_at evaluation_through evaluation next_byte number_read next_signed next_displacement base_at indexed_at
    next_specifier next_operand
    with_count operand_in_place next_operands instruction_at decoded all_rows row_for first_held pieces chunk chunk_start lowest_below chunks_holding chunk_reached counted_from last_piece
    text_pieces fit is_in is_held
    lowest_room lowest_of has_room all_pass push_onto procedure_call with_frame push_all saved registers_returned procedure_return pop unwound linkage pop_into restored arguments_dropped string_from
    arguments_from execve_reply image_named
hi_makes = refl

auto_run : Inputs
auto_run = record { images = auto_image ∷ []; file_numbers = 0 ∷ []; first = 1 ∷ []; lines = []; frames = 64; swap_blocks = 256; limit = 100 }

auto_run_held : Holdings
auto_run_held = or_before [] (start_held auto_run)

abbrev auto_run_units : List Entry
auto_run_units = Zero (Stack 1 0) ∷ Turn 1 ∷ Get (Text 1 0) 0 1 ∷ Done ∷ Ran 1 1 ∷ Zero (Data 1 0) ∷ Zero (Data 1 1) ∷ Ran 1 1 ∷ Ran 1 1 ∷ Ran 1 1 ∷ Ended 1 512 ∷ []

-- from the start the run makes these units, and no more
auto_run_makes : units_from 12 auto_run (start auto_run auto_run_held) ≡ auto_run_units
unfolding units_from more auto_run auto_run_held auto_image next_unit after state_after act asks held_step flat_step distinct step_accesses touched argument three_arguments bytes_from exit_reply
    written_to write_reply reply_of replaced returned apply_change apply_writes argument_area start_regs spot_at kept place_all computation bytes_at store_effect fetch evaluations write_tests
    tested_effect execution execution_by instruction number_at address_of evaluation_at evaluation_through evaluation next_byte number_read next_signed next_displacement base_at
    indexed_at next_specifier
    next_operand with_count operand_in_place next_operands instruction_at decoded all_rows row_for first_held pieces chunk chunk_start lowest_below chunks_holding chunk_reached counted_from
    last_piece text_pieces fit
    is_in is_held lowest_room lowest_of has_room all_pass push_onto procedure_call with_frame push_all saved registers_returned procedure_return pop unwound linkage pop_into restored arguments_dropped
    string_from arguments_from execve_reply image_named
auto_run_makes = refl

both : Inputs
both = record {
  images = hi_image ∷ auto_image ∷ [];
  file_numbers = 0 ∷ 1 ∷ [];
  first = 1 ∷ 2 ∷ [];
  lines = events.Dispatch 1 2 ∷ events.Interrupt ∷ events.Dispatch 2 3 ∷ events.Hands 3 ∷ events.Swapper ∷ events.Interrupt ∷ events.Audit ∷ events.Dispatch 1 5 ∷ [];
  frames = 64;
  swap_blocks = 256;
  limit = 100;
}

both_held : Holdings
both_held = or_before [] (start_held both)

abbrev both_units : List Entry
both_units = Zero (Stack 1 0) ∷ Zero (Stack 2 0) ∷ Event 1 ∷ Get (Text 1 0) 0 1 ∷ Event 2 ∷ Done ∷ Event 3 ∷ Get (Text 2 0) 0 1 ∷ Event 4 ∷ Event 5 ∷ Event 6 ∷ Done ∷ Event 7 ∷ Owners 60 4 0 104
    ∷ Event 8 ∷ Ran 1 1 ∷ Out 1 (104 ∷ 105 ∷ []) ∷ Call 1 4 false 2 0 ∷ Ran 1 1 ∷ Ended 1 0 ∷ Turn 2 ∷ Ran 2 1 ∷ Zero (Data 2 0) ∷ Zero (Data 2 1) ∷ Ran 2 1 ∷ Ran 2 1 ∷ Ran 2 1 ∷ Ended 2 512 ∷ []

-- from the start the run makes these units, and no more
both_makes : units_from 29 both (start both both_held) ≡ both_units
unfolding units_from more both both_held hi_image auto_image next_unit after state_after act asks held_step flat_step distinct step_accesses touched argument three_arguments bytes_from exit_reply
    written_to write_reply reply_of replaced returned apply_change apply_writes argument_area start_regs spot_at kept place_all computation bytes_at store_effect fetch evaluations write_tests
    tested_effect execution execution_by instruction number_at address_of evaluation_at evaluation_through evaluation next_byte number_read next_signed next_displacement base_at
    indexed_at next_specifier
    next_operand with_count operand_in_place next_operands instruction_at decoded all_rows row_for first_held pieces chunk chunk_start lowest_below chunks_holding chunk_reached counted_from
    last_piece text_pieces fit
    is_in is_held lowest_room lowest_of has_room all_pass push_onto procedure_call with_frame push_all saved registers_returned procedure_return pop unwound linkage pop_into restored arguments_dropped
    string_from arguments_from execve_reply image_named
both_makes = refl

forks : Inputs
forks = record { images = forky_image ∷ []; file_numbers = 0 ∷ []; first = 1 ∷ []; lines = []; frames = 64; swap_blocks = 256; limit = 100 }

forks_held : Holdings
forks_held = or_before [] (start_held forks)

abbrev forks_units : List Entry
forks_units = Zero (Stack 1 0) ∷ Turn 1 ∷ Get (Text 1 0) 0 1 ∷ Done ∷ Call 1 2 false 2 0 ∷ Copy (Stack 2 0) ∷ Ran 1 1 ∷ Zero (Data 1 0) ∷ Ran 1 1 ∷ Ran 1 1 ∷ Ran 1 1 ∷ Out 1 (112 ∷ [])
    ∷ Call 1 4 false 1 0 ∷ Ran 1 1 ∷ Ended 1 0 ∷ Turn 2 ∷ Ran 2 1 ∷ Zero (Data 2 0) ∷ Ran 2 1 ∷ Ran 2 1 ∷ Out 2 (99 ∷ []) ∷ Call 2 4 false 1 1 ∷ Ran 2 1 ∷ Ended 2 0 ∷ []

-- from the start the run makes these units, and no more
forks_makes : units_from 25 forks (start forks forks_held) ≡ forks_units
unfolding units_from more forks forks_held forky_image next_unit after state_after act asks held_step flat_step distinct step_accesses touched argument three_arguments bytes_from exit_reply written_to
    write_reply reply_of replaced returned apply_change apply_writes argument_area start_regs spot_at kept place_all computation bytes_at store_effect fetch evaluations write_tests tested_effect
    execution execution_by instruction number_at address_of evaluation_at evaluation_through evaluation next_byte number_read next_signed next_displacement base_at indexed_at
    next_specifier next_operand
    with_count operand_in_place next_operands instruction_at decoded all_rows row_for first_held pieces chunk chunk_start lowest_below chunks_holding chunk_reached counted_from last_piece
    text_pieces fit is_in is_held
    lowest_room lowest_of has_room all_pass push_onto procedure_call with_frame push_all saved registers_returned procedure_return pop unwound linkage pop_into restored arguments_dropped string_from
    arguments_from execve_reply image_named
forks_makes = refl

calling : Inputs
calling = record { images = calls_image ∷ []; file_numbers = 0 ∷ []; first = 1 ∷ []; lines = []; frames = 64; swap_blocks = 256; limit = 100 }

calling_held : Holdings
calling_held = or_before [] (start_held calling)

abbrev calling_units : List Entry
calling_units = Zero (Stack 1 0) ∷ Turn 1 ∷ Get (Text 1 0) 0 1 ∷ Done ∷ Ran 1 1 ∷ Ran 1 1 ∷ Ran 1 1 ∷ Ran 1 1 ∷ Ran 1 1 ∷ Zero (Data 1 0) ∷ Ran 1 1 ∷ Ran 1 1 ∷ Ended 1 1792 ∷ []

-- from the start the run makes these units, and no more
calling_makes : units_from 14 calling (start calling calling_held) ≡ calling_units
unfolding units_from more calling calling_held calls_image next_unit after state_after act asks held_step flat_step distinct step_accesses touched argument three_arguments bytes_from exit_reply
    written_to write_reply reply_of replaced returned apply_change apply_writes argument_area start_regs spot_at kept place_all computation bytes_at store_effect fetch evaluations write_tests
    tested_effect execution execution_by instruction number_at address_of evaluation_at evaluation_through evaluation next_byte number_read next_signed next_displacement base_at
    indexed_at next_specifier
    next_operand with_count operand_in_place next_operands instruction_at decoded all_rows row_for first_held pieces chunk chunk_start lowest_below chunks_holding chunk_reached counted_from
    last_piece text_pieces fit
    is_in is_held lowest_room lowest_of has_room all_pass push_onto procedure_call with_frame push_all saved registers_returned procedure_return pop unwound linkage pop_into restored arguments_dropped
    string_from arguments_from execve_reply image_named
calling_makes = refl

lends : Inputs
lends = record { images = lendy_image ∷ []; file_numbers = 0 ∷ []; first = 1 ∷ []; lines = []; frames = 64; swap_blocks = 256; limit = 100 }

lends_held : Holdings
lends_held = or_before [] (start_held lends)

abbrev lends_units : List Entry
lends_units = Zero (Stack 1 0) ∷ Turn 1 ∷ Get (Text 1 0) 0 1 ∷ Done ∷ Call 1 66 false 2 0 ∷ Turn 2 ∷ Ran 2 1 ∷ Zero (Data 1 0) ∷ Ran 2 1 ∷ Ran 2 1 ∷ Ended 2 0 ∷ Turn 1 ∷ Ran 1 1 ∷ Ran 1 1
    ∷ Out 1 (99 ∷ []) ∷ Call 1 4 false 1 0 ∷ Ran 1 1 ∷ Ran 1 1 ∷ Ended 1 0 ∷ []

-- from the start the run makes these units, and no more
lends_makes : units_from 20 lends (start lends lends_held) ≡ lends_units
unfolding units_from more lends lends_held lendy_image next_unit after state_after act asks held_step flat_step distinct step_accesses touched argument three_arguments bytes_from exit_reply written_to
    write_reply reply_of replaced returned apply_change apply_writes argument_area start_regs spot_at kept place_all computation bytes_at store_effect fetch evaluations write_tests tested_effect
    execution execution_by instruction number_at address_of evaluation_at evaluation_through evaluation next_byte number_read next_signed next_displacement base_at indexed_at
    next_specifier next_operand
    with_count operand_in_place next_operands instruction_at decoded all_rows row_for first_held pieces chunk chunk_start lowest_below chunks_holding chunk_reached counted_from last_piece
    text_pieces fit is_in is_held
    lowest_room lowest_of has_room all_pass push_onto procedure_call with_frame push_all saved registers_returned procedure_return pop unwound linkage pop_into restored arguments_dropped string_from
    arguments_from execve_reply image_named
lends_makes = refl

execs : Inputs
execs = record { images = hi_image ∷ ex_image ∷ []; file_numbers = 0 ∷ 1 ∷ []; first = 1 ∷ 2 ∷ []; lines = []; frames = 64; swap_blocks = 256; limit = 100 }

execs_held : Holdings
execs_held = or_before [] (start_held execs)

abbrev execs_units : List Entry
execs_units = Zero (Stack 1 0) ∷ Zero (Stack 2 0) ∷ Turn 1 ∷ Get (Text 1 0) 0 1 ∷ Done ∷ Ran 1 1 ∷ Out 1 (104 ∷ 105 ∷ []) ∷ Call 1 4 false 2 0 ∷ Ran 1 1 ∷ Ended 1 0 ∷ Turn 2 ∷ Get (Text 2 0) 0 1
    ∷ Done ∷ Ran 2 1 ∷ Call 2 59 false 0 0 ∷ Zero (Stack 3 0) ∷ Reclaim (Text 1 0) ∷ Ran 2 1 ∷ Out 2 (104 ∷ 105 ∷ []) ∷ Call 2 4 false 2 0 ∷ Ran 2 1 ∷ Ended 2 0 ∷ []

-- from the start the run makes these units, and no more
execs_makes : units_from 23 execs (start execs execs_held) ≡ execs_units
unfolding units_from more execs execs_held hi_image ex_image next_unit after state_after act asks held_step flat_step distinct step_accesses touched argument three_arguments bytes_from exit_reply
    written_to write_reply reply_of replaced returned apply_change apply_writes argument_area start_regs spot_at kept place_all computation bytes_at store_effect fetch evaluations write_tests
    tested_effect execution execution_by instruction number_at address_of evaluation_at evaluation_through evaluation next_byte number_read next_signed next_displacement base_at
    indexed_at next_specifier
    next_operand with_count operand_in_place next_operands instruction_at decoded all_rows row_for first_held pieces chunk chunk_start lowest_below chunks_holding chunk_reached counted_from
    last_piece text_pieces fit
    is_in is_held lowest_room lowest_of has_room all_pass push_onto procedure_call with_frame push_all saved registers_returned procedure_return pop unwound linkage pop_into restored arguments_dropped
    string_from arguments_from execve_reply image_named
execs_makes = refl

deeper : Inputs
deeper = record { images = deep_image ∷ []; file_numbers = 0 ∷ []; first = 1 ∷ []; lines = []; frames = 64; swap_blocks = 256; limit = 100 }

deeper_held : Holdings
deeper_held = or_before [] (start_held deeper)

abbrev deeper_units : List Entry
deeper_units = Zero (Stack 1 0) ∷ Turn 1 ∷ Get (Text 1 0) 0 1 ∷ Done ∷ Grew 1 2 ∷ Zero (Stack 1 1) ∷ Ran 1 1 ∷ Ended 1 64512 ∷ []

-- from the start the run makes these units, and no more
deeper_makes : units_from 9 deeper (start deeper deeper_held) ≡ deeper_units
unfolding units_from more deeper deeper_held deep_image next_unit after state_after act asks held_step flat_step distinct step_accesses touched argument three_arguments bytes_from exit_reply
    written_to write_reply reply_of replaced returned apply_change apply_writes argument_area start_regs spot_at kept place_all computation bytes_at store_effect fetch evaluations write_tests
    tested_effect execution execution_by instruction number_at address_of evaluation_at evaluation_through evaluation next_byte number_read next_signed next_displacement base_at
    indexed_at next_specifier
    next_operand with_count operand_in_place next_operands instruction_at decoded all_rows row_for first_held pieces chunk chunk_start lowest_below chunks_holding chunk_reached counted_from
    last_piece text_pieces fit
    is_in is_held lowest_room lowest_of has_room all_pass push_onto procedure_call with_frame push_all saved registers_returned procedure_return pop unwound linkage pop_into restored arguments_dropped
    string_from arguments_from execve_reply image_named
deeper_makes = refl

nested : Inputs
nested = record { images = nest_image ∷ []; file_numbers = 0 ∷ []; first = 1 ∷ []; lines = []; frames = 64; swap_blocks = 256; limit = 100 }

nested_held : Holdings
nested_held = or_before [] (start_held nested)

abbrev nested_units : List Entry
nested_units = Zero (Stack 1 0) ∷ Turn 1 ∷ Get (Text 1 0) 0 1 ∷ Done ∷ Call 1 66 false 2 0 ∷ Turn 2 ∷ Ran 2 1 ∷ Call 2 66 false 3 0 ∷ Turn 3 ∷ Ran 3 1 ∷ Zero (Data 1 0) ∷ Ran 3 1 ∷ Ran 3 1 ∷ Ended 3 0
    ∷ Turn 2 ∷ Ran 2 1 ∷ Ran 2 1 ∷ Ran 2 1 ∷ Ended 2 0 ∷ Turn 1 ∷ Ran 1 1 ∷ Ran 1 1 ∷ Out 1 (99 ∷ []) ∷ Call 1 4 false 1 0 ∷ Ran 1 1 ∷ Ran 1 1 ∷ Ended 1 0 ∷ []

-- from the start the run makes these units, and no more
nested_makes : units_from 28 nested (start nested nested_held) ≡ nested_units
unfolding units_from more nested nested_held nest_image next_unit after state_after act asks held_step flat_step distinct step_accesses touched argument three_arguments bytes_from exit_reply
    written_to write_reply reply_of replaced returned apply_change apply_writes argument_area start_regs spot_at kept place_all computation bytes_at store_effect fetch evaluations write_tests
    tested_effect execution execution_by instruction number_at address_of evaluation_at evaluation_through evaluation next_byte number_read next_signed next_displacement base_at
    indexed_at next_specifier
    next_operand with_count operand_in_place next_operands instruction_at decoded all_rows row_for first_held pieces chunk chunk_start lowest_below chunks_holding chunk_reached counted_from
    last_piece text_pieces fit
    is_in is_held lowest_room lowest_of has_room all_pass push_onto procedure_call with_frame push_all saved registers_returned procedure_return pop unwound linkage pop_into restored arguments_dropped
    string_from arguments_from execve_reply image_named
nested_makes = refl

-- forks until no piece of swap is left: the seventh child's stack finds no place
bomb : Inputs
bomb = record { images = bomb_image ∷ []; file_numbers = 0 ∷ []; first = 1 ∷ []; lines = []; frames = 64; swap_blocks = 256; limit = 18 }

bomb_held : Holdings
bomb_held = or_before [] (start_held bomb)

abbrev bomb_units : List Entry
bomb_units = Zero (Stack 1 0) ∷ Turn 1 ∷ Get (Text 1 0) 0 1 ∷ Done ∷ Call 1 2 false 2 0 ∷ Copy (Stack 2 0) ∷ Ran 1 1 ∷ Call 1 2 false 3 0 ∷ Copy (Stack 3 0) ∷ Ran 1 1 ∷ Call 1 2 false 4 0
    ∷ Copy (Stack 4 0) ∷ Ran 1 1 ∷ Call 1 2 false 5 0 ∷ Copy (Stack 5 0) ∷ Ran 1 1 ∷ Call 1 2 false 6 0 ∷ Copy (Stack 6 0) ∷ Ran 1 1 ∷ Call 1 2 false 7 0 ∷ Copy (Stack 7 0) ∷ Ran 1 1 ∷ Refused 1
    ∷ Call 1 2 true 12 0 ∷ Ran 1 1 ∷ Refused 1 ∷ Call 1 2 true 12 0 ∷ Ran 1 1 ∷ Refused 1 ∷ Call 1 2 true 12 0 ∷ Ran 1 1 ∷ []

-- from the start the run makes these units, and no more
bomb_makes : units_from 32 bomb (start bomb bomb_held) ≡ bomb_units
unfolding units_from more bomb bomb_held bomb_image next_unit after state_after act asks held_step flat_step distinct step_accesses touched argument three_arguments bytes_from exit_reply written_to
    write_reply reply_of replaced returned apply_change apply_writes argument_area start_regs spot_at kept place_all computation bytes_at store_effect fetch evaluations write_tests tested_effect
    execution execution_by instruction number_at address_of evaluation_at evaluation_through evaluation next_byte number_read next_signed next_displacement base_at indexed_at
    next_specifier next_operand
    with_count operand_in_place next_operands instruction_at decoded all_rows row_for first_held pieces chunk chunk_start lowest_below chunks_holding chunk_reached counted_from last_piece
    text_pieces fit is_in is_held
    lowest_room lowest_of has_room all_pass push_onto procedure_call with_frame push_all saved registers_returned procedure_return pop unwound linkage pop_into restored arguments_dropped string_from
    arguments_from execve_reply image_named
bomb_makes = refl
