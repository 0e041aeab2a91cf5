-- The call in the frame of a line by names.
use Rattle.std.proofs.Common.{◌≡◌, ℕ, ◌+◌, ◌*◌, ◌^◌, ◌<◌, Bool, true, false, cond, nat_lt, List, [], ◌∷◌, ◌++◌, length, codes, Some, Result, Ok, Err, refl, sym, ap, ◌∙◌, arith}
use Rattle.std.specs.Prelude.{option_map, replicate}
use Rattle.std.proofs.lemmas.Bool.{false≢true}
use Rattle.std.proofs.lemmas.Bool.Decides.{nat_tests}
use Rattle.std.specs.Int.{to_le_bytes, w64}
use Rattle.std.specs.Str.{bytes_eq}
use Rattle.byteorder.specs.Endian.{little_bytes}
use Rattle.hv_abi.specs.CallRow.{kind_of, row_of}
use Rattle.hv_abi.specs.Check.{call_of, input_of, is_fast}
use Rattle.hv_abi.specs.declared.call_kind.CallKind.{CallKind}
use Rattle.hv_abi.specs.declared.call_kind.CallKind.TheVariants as kind
use Rattle.hv_abi.specs.declared.frame.Frame.{Frame}
use Rattle.hv_calls.specs.Call.{call_in}
use Rattle.hv_calls.specs.Params.{element_at, parameters}
use Rattle.hv_defs.specs.Bits.{bits}
use Rattle.hv_defs.specs.Field.{field}
use Rattle.hv_policy.specs.Call.{called}
use Rattle.hv_script.specs.Line.{◌>>=◌}
use Rattle.hv_script.specs.Words.{word_at}
use Rattle.hv_script.specs.declared.fault.FaultKind.TheVariants.{Number}
use Rattle.hv_asm.proofs.ListContents.{block, fixed_fast, holds_list, is_header}
use Rattle.hv_asm.proofs.Registers.{both_bytes, number_bytes, one_register, registers, two_registers, zero_bytes}
use Rattle.hv_asm.specs.Frame.{fast_bit, fast_frame, frame_of, listed_frame, rcx_of, twelve_bits}
use Rattle.hv_asm.specs.List.{elements_of, list_of}
use Rattle.hv_asm.specs.Meaning.{call_with, element_in, or_zero, the, Holds}
use Rattle.hv_asm.specs.Values.{option_value}
use Rattle.hv_asm.specs.declared.fault.AsmFault.{AsmFault}
use Rattle.hv_asm.specs.declared.fault.AsmFault.TheVariants.{Script, NoFastForm}
use Rattle.hv_asm.specs.declared.field.Field.TheVariants as its

-- an input value, by its parts
abbrev value_of : ℕ → Bool → ℕ → ℕ → ℕ
value_of code fast reps start = code + fast_bit fast + reps * 2 ^ 32 + start * 2 ^ 48

code_in : (code : ℕ) (fast : Bool) (reps start : ℕ) → code < 2 ^ 16 → bits (value_of code fast reps start) 0 16 ≡ code
code_in code true reps start small = omega arith
code_in code false reps start small = omega arith

fast_in : (code : ℕ) (fast : Bool) (reps start : ℕ) → code < 2 ^ 16 → is_fast (value_of code fast reps start) ≡ fast
fast_in code true reps start small = let one : bits (value_of code true reps start) 16 1 ≡ 1 = omega arith in grind (arith, nat_tests, one)
fast_in code false reps start small = let none : bits (value_of code false reps start) 16 1 ≡ 0 = omega arith in grind (arith, nat_tests, none)

start_in : (code : ℕ) (fast : Bool) (reps start : ℕ) → code < 2 ^ 16 → reps < 4096 → start < 4096 → bits (value_of code fast reps start) 48 12 ≡ start
start_in code true reps start small few less = omega arith
start_in code false reps start small few less = omega arith

-- the input value of a line by names
record IsValue (kind : CallKind) (fast : Bool) (words : List (List ℕ)) (rcx : ℕ) : Type 0 where
  reps : ℕ
  start : ℕ
  few : reps < 4096
  less : start < 4096
  given : option_value (codes "start") 0 words ≡ Ok start
  is : rcx ≡ value_of (row_of kind).code fast reps start

value_made : (kind : CallKind) (fast : Bool) (words : List (List ℕ)) (rcx : ℕ) → rcx_of kind fast words ≡ Ok rcx → IsValue kind fast words rcx
unfolding rcx_of
value_made kind fast words rcx made = by (option_value (codes "reps") (length (elements_of kind fast words)) words) (option_value (codes "start") 0 words) refl made
  where
    numbers : (reps start : ℕ) (few less : Bool) → nat_lt reps 4096 ≡ few → nat_lt start 4096 ≡ less → option_value (codes "start") 0 words ≡ Ok start
        → cond few (Ok reps) (Err (Script Number)) >>= (λ reps. cond less (Ok start) (Err (Script Number)) >>= (λ start. Ok (value_of (row_of kind).code fast reps start))) ≡ Ok rcx
        → IsValue kind fast words rcx
    numbers reps start false less is_few is_less given e = cc
    numbers reps start true false is_few is_less given e = cc
    numbers reps start true true is_few is_less given e = record {
      reps = reps;
      start = start;
      few = grind (arith, nat_tests, is_few);
      less = grind (arith, nat_tests, is_less);
      given = given;
      is = cc;
    }

    by : (reps start : Result ℕ AsmFault) → option_value (codes "start") 0 words ≡ start
        → reps >>= twelve_bits >>= (λ reps. start >>= twelve_bits >>= (λ start. Ok (value_of (row_of kind).code fast reps start))) ≡ Ok rcx
        → IsValue kind fast words rcx
    by (Err fault) start given e = cc
    by (Ok reps) (Err fault) given e = second (twelve_bits reps) e
      where
        second : (r : Result ℕ AsmFault) → r >>= (λ reps. Err fault >>= (λ start. Ok (value_of (row_of kind).code fast reps start))) ≡ Ok rcx → IsValue kind fast words rcx
        second (Ok n) e = cc
        second (Err other) e = cc
    by (Ok reps) (Ok start) given e = numbers reps start (nat_lt reps 4096) (nat_lt start 4096) refl refl given e

-- each call is known by its code
small_code : (kind : CallKind) → (row_of kind).code < 2 ^ 16
small_code kind.CreatePartition = omega arith
small_code kind = omega arith

known : (kind : CallKind) → kind_of (row_of kind).code ≡ Some kind
known kind.CreatePartition = refl
known kind = refl

-- a frame with this input value, whose list holds these calls
holds : {A : Type 0} (kind : CallKind) (fast : Bool) (words : List (List ℕ)) (frame : Frame A) → rcx_of kind fast words ≡ Ok frame.rcx
    → ((start : ℕ) → call_in kind (input_of frame fast) (element_at kind start) ≡ call_with kind words (word_at (elements_of kind fast words) start))
    → (is_fast frame.rcx ≡ fast) × (called frame ≡ Some (call_with kind words (element_in kind fast words)))
holds kind fast words frame made calls =
    let value = value_made kind fast words frame.rcx made in
    let small = small_code kind in
    let of_code : call_of frame ≡ Some kind = ap (λ (rcx : ℕ). kind_of (bits rcx 0 16)) value.is ∙ ap kind_of (code_in (row_of kind).code fast value.reps value.start small) ∙ known kind in
    let of_fast : is_fast frame.rcx ≡ fast = ap is_fast value.is ∙ fast_in (row_of kind).code fast value.reps value.start small in
    let of_start : bits frame.rcx 48 12 ≡ value.start =
    ap (λ (rcx : ℕ). bits rcx 48 12) value.is ∙ start_in (row_of kind).code fast value.reps value.start small value.few value.less in
    let word : word_at (elements_of kind fast words) value.start ≡ element_in kind fast words =
    ap (λ (r : Result ℕ AsmFault). word_at (elements_of kind fast words) (or_zero r)) (sym value.given) in
    let one : parameters kind frame ≡ call_with kind words (element_in kind fast words) =
    ap (λ (b : Bool). call_in kind (input_of frame b) (element_at kind (bits frame.rcx 48 12))) of_fast
    ∙ ap (λ (n : ℕ). call_in kind (input_of frame fast) (element_at kind n)) of_start ∙ calls value.start ∙ ap (call_with kind words) word in
    (of_fast, ap (option_map (λ kind. parameters kind frame)) of_code ∙ ap Some one)

-- a frame, by its parts
abbrev frame_with : {A : Type 0} → ℕ → ℕ → ℕ → List ℕ → Frame A
frame_with rcx rdx r8 input = record { rcx = rcx; rdx = rdx; r8 = r8; input = input }

-- the frame with a list
record IsListed {A : Type 0} (kind : CallKind) (words : List (List ℕ)) (frame : Frame A) : Type 0 where
  list : list_of kind false words ≡ Ok frame.input
  rcx : rcx_of kind false words ≡ Ok frame.rcx

listed_made : {A : Type 0} (kind : CallKind) (words : List (List ℕ)) (frame : Frame A) → listed_frame kind words ≡ Ok frame → IsListed kind words frame
unfolding listed_frame
listed_made {A} kind words frame made = by (list_of kind false words) (rcx_of kind false words) (option_value (codes "input") 0 words) (option_value (codes "output") 0 words) refl refl made
  where
    by : (list : Result (List ℕ) AsmFault) (rcx rdx r8 : Result ℕ AsmFault) → list_of kind false words ≡ list → rcx_of kind false words ≡ rcx
        → list >>= (λ list. rcx >>= (λ rcx. rdx >>= (λ rdx. r8 >>= (λ r8. Ok (frame_with {A = A} rcx rdx r8 list))))) ≡ Ok frame
        → IsListed kind words frame
    by (Err fault) rcx rdx r8 is_list is_rcx e = cc
    by (Ok list) (Err fault) rdx r8 is_list is_rcx e = cc
    by (Ok list) (Ok rcx) (Err fault) r8 is_list is_rcx e = cc
    by (Ok list) (Ok rcx) (Ok rdx) (Err fault) is_list is_rcx e = cc
    by (Ok list) (Ok rcx) (Ok rdx) (Ok r8) is_list is_rcx e =
        let same : frame_with {A = A} rcx rdx r8 list ≡ frame = cc in
        record { list = is_list ∙ ap (λ (f : Frame A). Ok f.input) same; rcx = is_rcx ∙ ap (λ (f : Frame A). Ok f.rcx) same }

-- the frame of a fast call
record IsFast {A : Type 0} (kind : CallKind) (words : List (List ℕ)) (frame : Frame A) : Type 0 where
  allowed : (row_of kind).fast ≡ true
  bytes : List ℕ
  list : list_of kind true words ≡ Ok bytes
  rcx : rcx_of kind true words ≡ Ok frame.rcx
  rdx : frame.rdx ≡ field bytes 0 8
  r8 : frame.r8 ≡ field bytes 8 8

fast_made : {A : Type 0} (kind : CallKind) (words : List (List ℕ)) (frame : Frame A) → fast_frame kind words ≡ Ok frame → IsFast kind words frame
unfolding fast_frame
fast_made {A} kind words frame made = by (row_of kind).fast (list_of kind true words) (rcx_of kind true words) refl refl refl made
  where
    by : (allowed : Bool) (list : Result (List ℕ) AsmFault) (rcx : Result ℕ AsmFault) → (row_of kind).fast ≡ allowed → list_of kind true words ≡ list → rcx_of kind true words ≡ rcx
        → cond allowed (list >>= (λ list. rcx >>= (λ rcx. Ok (frame_with {A = A} rcx (field list 0 8) (field list 8 8) [])))) (Err NoFastForm) ≡ Ok frame
        → IsFast kind words frame
    by false list rcx allowed is_list is_rcx e = cc
    by true (Err fault) rcx allowed is_list is_rcx e = cc
    by true (Ok list) (Err fault) allowed is_list is_rcx e = cc
    by true (Ok list) (Ok rcx) allowed is_list is_rcx e =
        let same : frame_with {A = A} rcx (field list 0 8) (field list 8 8) [] ≡ frame = cc in record {
          allowed = allowed;
          bytes = list;
          list = is_list;
          rcx = is_rcx ∙ ap (λ (f : Frame A). Ok f.rcx) same;
          rdx = ap (λ (f : Frame A). f.rdx) (sym same);
          r8 = ap (λ (f : Frame A). f.r8) (sym same);
        }

-- an id and a number of 4 bytes
id_and_number : (id number : ℕ) → registers (little_bytes 8 id ++ (little_bytes 4 number ++ replicate 4 0)) ≡ little_bytes 8 id ++ (little_bytes 4 number ++ replicate 4 0)
id_and_number id number =
    two_registers (little_bytes 8 id) (little_bytes 4 number ++ replicate 4 0) refl refl (number_bytes 0 8 id)
    (both_bytes (little_bytes 4 number) (replicate 4 0) (number_bytes 0 4 number) (zero_bytes 4))

-- the list of a call that may be fast fills RDX, or RDX and R8
in_registers : (kind : CallKind) (words : List (List ℕ)) → (row_of kind).fast ≡ true
    → (rest : List ℕ) × (registers (block kind words []) ≡ block kind words rest)
in_registers kind.InitializePartition words allowed =
    (replicate 8 0, one_register (little_bytes 8 (the words its.PartitionId)) refl (number_bytes 0 8 (the words its.PartitionId)))
in_registers kind.FinalizePartition words allowed =
    (replicate 8 0, one_register (little_bytes 8 (the words its.PartitionId)) refl (number_bytes 0 8 (the words its.PartitionId)))
in_registers kind.DeletePartition words allowed =
    (replicate 8 0, one_register (little_bytes 8 (the words its.PartitionId)) refl (number_bytes 0 8 (the words its.PartitionId)))
in_registers kind.CreateVp words allowed = ([], id_and_number (the words its.PartitionId) (the words its.VpIndex))
in_registers kind.DeleteVp words allowed = ([], id_and_number (the words its.PartitionId) (the words its.VpIndex))
in_registers kind.DeletePort words allowed = ([], id_and_number (the words its.PartitionId) (the words its.PortId))
in_registers kind.DisconnectPort words allowed = ([], id_and_number (the words its.PartitionId) (the words its.ConnectionId))
in_registers kind.SignalEvent words allowed =
    let connection = the words its.ConnectionId in
    let flag = the words its.FlagNumber in
    let behind = both_bytes (little_bytes 2 flag) (replicate 2 0) (number_bytes 0 2 flag) (zero_bytes 2) in (
      replicate 8 0,
      one_register (little_bytes 4 connection ++ (little_bytes 2 flag ++ replicate 2 0)) refl
          (both_bytes (little_bytes 4 connection) (little_bytes 2 flag ++ replicate 2 0) (number_bytes 0 4 connection) behind),
    )
in_registers kind words allowed = absurd (false≢true allowed)

-- no call that may be fast has elements
plain : (kind : CallKind) → (row_of kind).fast ≡ true → (row_of kind).input_element ≡ 0
plain kind.DepositMemory allowed = absurd (false≢true allowed)
plain kind.GetVpRegisters allowed = absurd (false≢true allowed)
plain kind.SetVpRegisters allowed = absurd (false≢true allowed)
plain kind allowed = refl

fast_calls : {A : Type 0} (kind : CallKind) (words : List (List ℕ)) (frame : Frame A) → IsFast kind words frame → (start : ℕ)
    → call_in kind (input_of frame true) (element_at kind start) ≡ call_with kind words (word_at (elements_of kind true words) start)
fast_calls kind words frame made start =
    let list : made.bytes ≡ block kind words [] = is_header kind true words made.bytes (plain kind made.allowed) made.list in
    let placed = in_registers kind words made.allowed in
    let input : input_of frame true ≡ block kind words placed.0 =
    ap (λ (n : ℕ). to_le_bytes w64 n ++ to_le_bytes w64 frame.r8) made.rdx ∙ ap (λ (n : ℕ). to_le_bytes w64 (field made.bytes 0 8) ++ to_le_bytes w64 n) made.r8
    ∙ ap registers list ∙ placed.1 in
    ap (λ (l : List ℕ). call_in kind l (element_at kind start)) input
    ∙ fixed_fast kind words placed.0 (element_at kind start) (word_at (elements_of kind true words) start) made.allowed

-- the frame of a line by names holds the call with the fields that the line gives
pub frame_holds : {A : Type 0} (kind : CallKind) (words : List (List ℕ)) (frame : Frame A) → frame_of kind words ≡ Ok frame → Holds frame kind words
frame_holds kind [] frame made =
    let parts = listed_made kind [] frame made in
    let both = holds kind false [] frame parts.rcx (λ start. holds_list kind false [] frame.input start parts.list) in
    record { fast = both.0; call = both.1 }
frame_holds {A} kind (word ∷ words) frame made = by (bytes_eq word (codes "fast")) refl made
  where
    by : (fast : Bool) → bytes_eq word (codes "fast") ≡ fast → cond fast (fast_frame kind words) (listed_frame kind (word ∷ words)) ≡ Ok frame → Holds frame kind (word ∷ words)
    by true is e =
        let parts = fast_made kind words frame e in
        let both = holds kind true words frame parts.rcx (fast_calls kind words frame parts) in
        record { fast = both.0 ∙ sym is; call = both.1 ∙ ap (λ (b : Bool). Some (call_with kind (cond b words (word ∷ words)) (element_in kind b (cond b words (word ∷ words))))) (sym is) }
    by false is e =
        let parts = listed_made kind (word ∷ words) frame e in
        let both = holds kind false (word ∷ words) frame parts.rcx (λ start. holds_list kind false (word ∷ words) frame.input start parts.list) in
        record { fast = both.0 ∙ sym is; call = both.1 ∙ ap (λ (b : Bool). Some (call_with kind (cond b words (word ∷ words)) (element_in kind b (cond b words (word ∷ words))))) (sym is) }

-- the frame of a fast call, from its parts
pub fast_done : {A : Type 0} (kind : CallKind) (words : List (List ℕ)) (list : List ℕ) (rcx rdx r8 : ℕ) (input : List ℕ) → (row_of kind).fast ≡ true → list_of kind true words ≡ Ok list
    → rcx_of kind true words ≡ Ok rcx → rdx ≡ field list 0 8 → r8 ≡ field list 8 8 → input ≡ [] → fast_frame {A = A} kind words ≡ Ok (frame_with {A = A} rcx rdx r8 input)
unfolding fast_frame
fast_done kind words list rcx rdx r8 input allowed is_list is_rcx one other none = rw (allowed, is_list, is_rcx, one, other, none) refl
