-- What the list of a line by names holds.
use Rattle.std.proofs.Common.{◌≡◌, ℕ, zero, suc, ◌+◌, ◌*◌, ◌^◌, ◌<◌, ◌==◌, ◌&&◌, Bool, true, false, cond, drop, nat_eq, nat_lt, nat_le, List, [], ◌∷◌, ◌++◌, length, codes, find, append-nil}
use Rattle.std.proofs.Common.{Option, Some, None, Result, Ok, Err, ok_or, refl, sym, ap, ◌∙◌, arith, slice_index, pow_pos}
use Rattle.std.specs.Prelude.{replicate}
use Rattle.std.proofs.lemmas.Bool.{false≢true}
use Rattle.std.proofs.lemmas.Bool.Decides.{nat_tests}
use Rattle.std.specs.List.{list_all, starts_with}
use Rattle.std.specs.Option.{option_map_or}
use Rattle.std.specs.Str.{bytes_eq}
use Rattle.std.specs.Str.Parse.{digits_value}
use Rattle.byteorder.specs.Endian.{little_bytes}
use Rattle.byteorder.specs.Numbers.{little_number-reads_back, length-bytes_low_first}
use Rattle.hv_abi.specs.CallRow.{row_of}
use Rattle.hv_abi.specs.declared.call_kind.CallKind.{CallKind}
use Rattle.hv_abi.specs.declared.call_kind.CallKind.TheVariants as kind
use Rattle.hv_calls.proofs.Copies.{bytes_at-drop, little_from-copy}
use Rattle.hv_calls.proofs.Numbers.{field-past, field-second, pow256}
use Rattle.hv_calls.specs.Bytes.{bytes_at}
use Rattle.hv_calls.specs.Call.{call_in, port_aim, port_kind}
use Rattle.hv_calls.specs.Params.{element_at}
use Rattle.hv_calls.specs.declared.call.Call.{Call}
use Rattle.hv_calls.specs.declared.call.Call.TheVariants as call
use Rattle.hv_defs.specs.Field.{field}
use Rattle.hv_defs.specs.declared.aim.Aim.{Aim}
use Rattle.hv_defs.specs.declared.port_kind.PortKind.{PortKind}
use Rattle.hv_defs.specs.declared.registers.RegisterRow.{RegisterRow}
use Rattle.hv_defs.specs.declared.registers.TheConstants.{REGISTERS}
use Rattle.hv_defs.specs.declared.sizes.TheConstants.{SELF_ID}
use Rattle.hv_script.specs.Line.{◌>>=◌}
use Rattle.hv_script.specs.Number.{are_digits, digits_in, fitting, number_in}
use Rattle.hv_script.specs.Words.{word_at}
use Rattle.hv_script.specs.declared.fault.FaultKind.TheVariants.{Number, Hex}
use Rattle.hv_words.specs.Names.{register_name}
use Rattle.hv_asm.specs.List.{all_bytes, element_bytes, elements_of, header_of, list_of, part_bytes}
use Rattle.hv_asm.specs.Meaning.{call_with, or_none, or_zero, the}
use Rattle.hv_asm.specs.Names.{register_of, register_or, row_named}
use Rattle.hv_asm.specs.Table.{field_name, parts_of, size_of}
use Rattle.hv_asm.specs.Values.{at_most_one, field_value, given, name_in, number_of, numeral, required, value_in}
use Rattle.hv_asm.specs.declared.fault.AsmFault.{AsmFault}
use Rattle.hv_asm.specs.declared.fault.AsmFault.TheVariants.{Script, UnknownField}
use Rattle.hv_asm.specs.declared.field.Field.{Field as TheField}
use Rattle.hv_asm.specs.declared.field.Field.TheVariants as its
use Rattle.hv_asm.specs.declared.field.Part.{Part}
use Rattle.hv_asm.specs.declared.field.Part.TheVariants.{Field, Unused, Payload}

-- a number reads as it was written
pub here : (n x : ℕ) (rest : List ℕ) → x < 256 ^ n → field (little_bytes n x ++ rest) 0 n ≡ x
here n x rest fits =
    let whole = little_bytes n x ++ rest in
    let same : (k : ℕ) → k ≡ 0 + k = λ k. omega arith in
    sym (little_from-copy whole whole 0 0 n (λ k less. ap (slice_index whole) (same k))) ∙ little_number-reads_back n x rest fits

-- what is read fits
abbrev Fits : ℕ → Option ℕ → Type 0
Fits bits number = or_zero (ok_or number (Script Number)) < 2 ^ bits

nothing_fits : (bits : ℕ) → Fits bits None
nothing_fits bits = pow_pos bits

fitting_fits : (bits n : ℕ) → Fits bits (fitting bits n)
fitting_fits bits n = by (nat_lt n (2 ^ bits)) refl
  where
    by : (b : Bool) → nat_lt n (2 ^ bits) ≡ b → Fits bits (cond b (Some n) None)
    by true e = grind (arith, nat_tests, e)
    by false e = nothing_fits bits

either_fits : (bits : ℕ) (b : Bool) (n m : Option ℕ) → Fits bits n → Fits bits m → Fits bits (cond b n m)
either_fits bits true n m one other = one
either_fits bits false n m one other = other

digits_fit : (base bits : ℕ) (word : List ℕ) → Fits bits (digits_in base bits word)
digits_fit base bits word =
    either_fits bits (nat_lt 0 (length word) && are_digits base word) (fitting bits (digits_value base word)) None (fitting_fits bits (digits_value base word)) (nothing_fits bits)

pub numeral_fits : (bits : ℕ) (word : List ℕ) → or_zero (numeral bits word) < 2 ^ bits
unfolding number_in
numeral_fits bits word =
    let rest = drop 2 word in
    either_fits bits (starts_with nat_eq word (codes "0x")) (cond (nat_le (length rest) 16) (digits_in 16 bits rest) None) (digits_in 10 bits word)
    (either_fits bits (nat_le (length rest) 16) (digits_in 16 bits rest) None (digits_fit 16 bits rest) (nothing_fits bits)) (digits_fit 10 bits word)

self_fits : (bits : ℕ) (b : Bool) (word : List ℕ) → ((bits == 64) && b) ≡ true → SELF_ID < 2 ^ bits
self_fits bits b word e = let is : bits ≡ 64 = grind (arith, nat_tests, e) in rw is (omega arith)

number_fits : (bits : ℕ) (word : List ℕ) → or_zero (number_of bits word) < 2 ^ bits
number_fits bits word = by ((bits == 64) && bytes_eq word (codes "self")) refl
  where
    by : (b : Bool) → ((bits == 64) && bytes_eq word (codes "self")) ≡ b → or_zero (cond b (Ok SELF_ID) (numeral bits word)) < 2 ^ bits
    by true e = self_fits bits _ word e
    by false e = numeral_fits bits word

pub field_fits : (words : List (List ℕ)) (f : TheField) → the words f < 256 ^ size_of f
unfolding field_value
field_fits words f = rw (pow256 (size_of f)) (by (at_most_one (given (field_name f) words)))
  where
    by : (given : Result (Option (List ℕ)) AsmFault) → or_zero (given >>= required (number_of (8 * size_of f))) < 2 ^ (8 * size_of f)
    by (Err fault) = pow_pos (8 * size_of f)
    by (Ok None) = pow_pos (8 * size_of f)
    by (Ok (Some word)) = number_fits (8 * size_of f) word

-- the bytes of parts whose values are read
abbrev pub sure : List (List ℕ) → Part → List ℕ
sure words (Field f) = little_bytes (size_of f) (the words f)
sure words (Unused count) = replicate count 0
sure words Payload = or_none (part_bytes words Payload)

abbrev pub joined : {X : Type 0} → (X → List ℕ) → List X → List ℕ
joined bytes [] = []
joined bytes (x ∷ xs) = bytes x ++ joined bytes xs

made : {X : Type 0} (bytes : X → Result (List ℕ) AsmFault) (value : X → List ℕ) → ((x : X) (b : List ℕ) → bytes x ≡ Ok b → b ≡ value x)
    → (xs : List X) (list : List ℕ) → all_bytes bytes xs ≡ Ok list → list ≡ joined value xs
made bytes value each [] list e = cc
made bytes value each (x ∷ xs) list e = by (bytes x) (all_bytes bytes xs) refl (λ rest more. made bytes value each xs rest more) e
  where
    by : (first rest : Result (List ℕ) AsmFault) → bytes x ≡ first → ((l : List ℕ) → rest ≡ Ok l → l ≡ joined value xs)
        → first >>= (λ first. rest >>= (λ rest. Ok (first ++ rest))) ≡ Ok list → list ≡ value x ++ joined value xs
    by (Err fault) rest is others e = cc
    by (Ok first) (Err fault) is others e = cc
    by (Ok first) (Ok rest) is others e =
        let one = each x first is in
        let all : list ≡ first ++ rest = cc in
        all ∙ ap (λ (l : List ℕ). l ++ rest) one ∙ ap (λ (l : List ℕ). value x ++ l) (others rest refl)

part_sure : (words : List (List ℕ)) (part : Part) (b : List ℕ) → part_bytes words part ≡ Ok b → b ≡ sure words part
part_sure words (Field f) b e = by (field_value f words) e
  where
    by : (r : Result ℕ AsmFault) → r >>= (λ value. Ok (little_bytes (size_of f) value)) ≡ Ok b → b ≡ little_bytes (size_of f) (or_zero r)
    by (Ok value) e = cc
    by (Err fault) e = cc
part_sure words (Unused count) b e = cc
part_sure words Payload b e = by (part_bytes words Payload) e
  where
    by : (r : Result (List ℕ) AsmFault) → r ≡ Ok b → b ≡ or_none r
    by (Ok bytes) e = cc
    by (Err fault) e = cc

-- each field of a list
num : (words : List (List ℕ)) (f : TheField) → field (little_bytes (size_of f) (the words f) ++ []) 0 (size_of f) ≡ the words f
num words f = here (size_of f) (the words f) [] (field_fits words f)

same2 : {X Y Z : Type 0} (f : X → Y → Z) {x x' : X} {y y' : Y} → x ≡ x' → y ≡ y' → f x y ≡ f x' y'
same2 f {x} {x'} {y} {y'} one other = ap (λ v. f v y) one ∙ ap (λ v. f x' v) other

same3 : {X Y Z V : Type 0} (f : X → Y → Z → V) {x x' : X} {y y' : Y} {z z' : Z} → x ≡ x' → y ≡ y' → z ≡ z' → f x y z ≡ f x' y' z'
same3 f {x} {x'} {y} {y'} {z} {z'} one other third = ap (λ v. f v y z) one ∙ same2 (f x') other third

app : {X Y : Type 0} {f g : X → Y} {x y : X} → f ≡ g → x ≡ y → f x ≡ g y
app {f} {g} {x} {y} one other = ap (λ h. h x) one ∙ ap g other

abbrev pub block : CallKind → List (List ℕ) → List ℕ → List ℕ
block kind words rest = joined (sure words) (parts_of kind) ++ rest

payload_in : (words : List (List ℕ)) (rest : List ℕ) (n m : ℕ) → n ≡ m
    → bytes_at (block kind.PostMessage words rest) 16 n ≡ bytes_at (or_none (part_bytes words Payload) ++ rest) 0 m
payload_in words rest n m is =
    ap (bytes_at (block kind.PostMessage words rest) 16) is
    ∙ sym (bytes_at-drop (block kind.PostMessage words rest) 16 0 m)
    ∙ ap (λ (l : List ℕ). bytes_at (l ++ rest) 0 m) (append-nil (or_none (part_bytes words Payload)))

-- calls of many fields, as functions
abbrev create_port : ℕ → ℕ → ℕ → PortKind → ℕ → Aim → ℕ → ℕ → Call
create_port partition port peer kind sint vp base count = call.CreatePort partition port peer kind sint vp base count

abbrev connect_port : ℕ → ℕ → ℕ → ℕ → PortKind → Call
connect_port partition connection port_partition port kind = call.ConnectPort partition connection port_partition port kind

abbrev set_registers : ℕ → ℕ → ℕ → ℕ → Call
set_registers partition vp name value = call.SetVpRegisters partition vp name value

-- a call that may be fast, whatever stands behind its list
pub fixed_fast : (kind : CallKind) (words : List (List ℕ)) (rest : List ℕ) (e : ℕ) (w : List ℕ) → (row_of kind).fast ≡ true
    → call_in kind (block kind words rest) e ≡ call_with kind words w
fixed_fast kind.InitializePartition words rest e w allowed = ap call.InitializePartition (num words its.PartitionId)
fixed_fast kind.FinalizePartition words rest e w allowed = ap call.FinalizePartition (num words its.PartitionId)
fixed_fast kind.DeletePartition words rest e w allowed = ap call.DeletePartition (num words its.PartitionId)
fixed_fast kind.CreateVp words rest e w allowed = same2 call.CreateVp (num words its.PartitionId) (num words its.VpIndex)
fixed_fast kind.DeleteVp words rest e w allowed = same2 call.DeleteVp (num words its.PartitionId) (num words its.VpIndex)
fixed_fast kind.DeletePort words rest e w allowed = same2 call.DeletePort (num words its.PartitionId) (num words its.PortId)
fixed_fast kind.DisconnectPort words rest e w allowed = same2 call.DisconnectPort (num words its.PartitionId) (num words its.ConnectionId)
fixed_fast kind.SignalEvent words rest e w allowed = same2 call.SignalEvent (num words its.ConnectionId) (num words its.FlagNumber)
fixed_fast kind words rest e w allowed = absurd (false≢true allowed)

-- a call without elements
fixed : (kind : CallKind) (words : List (List ℕ)) (e : ℕ) (w : List ℕ) → (row_of kind).input_element ≡ 0
    → call_in kind (block kind words []) e ≡ call_with kind words w
fixed kind.CreatePartition words e w none = ap call.CreatePartition (num words its.Flags)
fixed kind.GetPartitionProperty words e w none = same2 call.GetPartitionProperty (num words its.PartitionId) (num words its.PropertyCode)
fixed kind.SetPartitionProperty words e w none =
    same3 call.SetPartitionProperty (num words its.PartitionId) (num words its.PropertyCode) (num words its.PropertyValue)
fixed kind.GetPartitionId words e w none = refl
fixed kind.GetNextChildPartition words e w none = same2 call.GetNextChildPartition (num words its.ParentId) (num words its.PreviousChildId)
fixed kind.WithdrawMemory words e w none = ap call.WithdrawMemory (num words its.PartitionId)
fixed kind.GetMemoryBalance words e w none = ap call.GetMemoryBalance (num words its.PartitionId)
fixed kind.PostMessage words e w none =
    same3 call.PostMessage (num words its.ConnectionId) (num words its.MessageType) (payload_in words [] _ _ (num words its.PayloadSize)
    ∙ ap (λ (l : List ℕ). bytes_at l 0 (the words its.PayloadSize)) (append-nil (or_none (part_bytes words Payload))))
fixed kind.CreatePort words e w none =
    let head = same3 create_port (num words its.PortPartition) (num words its.PortId) (num words its.ConnectionPartition) in
    let aim = app (app (app head (ap port_kind (num words its.PortType))) (num words its.TargetSint)) (ap port_aim (num words its.TargetVp)) in
    app (app aim (num words its.BaseFlagNumber)) (num words its.FlagCount)
fixed kind.ConnectPort words e w none =
    let head = same3 connect_port (num words its.ConnectionPartition) (num words its.ConnectionId) (num words its.PortPartition) in
    app (app head (num words its.PortId)) (ap port_kind (num words its.PortType))
fixed kind.DepositMemory words e w none = let no : 8 ≡ 0 = none in absurd (omega (arith, no))
fixed kind.GetVpRegisters words e w none = let no : 4 ≡ 0 = none in absurd (omega (arith, no))
fixed kind.SetVpRegisters words e w none = let no : 32 ≡ 0 = none in absurd (omega (arith, no))
fixed kind words e w none = fixed_fast kind words [] e w refl

past : (at n : ℕ) → field [] at n ≡ 0
past at n = field-past [] at n (omega arith)

-- a field of an element, where elements have one length
in_element : (bytes : List ℕ → List ℕ) (value : List ℕ → ℕ) (len k n : ℕ) → ((w : List ℕ) → length (bytes w) ≡ len)
    → ((w rest : List ℕ) → field (bytes w ++ rest) k n ≡ value w) → value [] ≡ 0
    → ((s : ℕ) → suc s * len + k ≡ len + (s * len + k)) → 0 * len + k ≡ k
    → (words : List (List ℕ)) (start : ℕ) → field (joined bytes words) (start * len + k) n ≡ value (word_at words start)
in_element bytes value len k n long reads none next first [] zero = past (0 * len + k) n ∙ sym none
in_element bytes value len k n long reads none next first [] (suc start) = past (suc start * len + k) n ∙ sym none
in_element bytes value len k n long reads none next first (w ∷ words) zero =
    ap (λ at. field (bytes w ++ joined bytes words) at n) first ∙ reads w (joined bytes words)
in_element bytes value len k n long reads none next first (w ∷ words) (suc start) =
    ap (λ at. field (bytes w ++ joined bytes words) at n) (next start)
    ∙ field-second (bytes w) (joined bytes words) len (start * len + k) n (long w)
    ∙ in_element bytes value len k n long reads none next first words start

-- the elements of each rep call that has some
abbrev page : List ℕ → ℕ
page word = or_zero (numeral 64 word)

abbrev page_bytes : List ℕ → List ℕ
page_bytes word = little_bytes 8 (page word)

abbrev name : List ℕ → ℕ
name word = or_zero (register_of word)

abbrev name_bytes : List ℕ → List ℕ
name_bytes word = little_bytes 4 (name word)

abbrev pair_bytes : List ℕ → List ℕ
pair_bytes word =
    little_bytes 4 (name (name_in word)) ++ replicate 12 0 ++ little_bytes 8 (page (value_in word)) ++ replicate 8 0

no_page : page [] ≡ 0
unfolding number_in
no_page = refl

no_name : name [] ≡ 0
unfolding row_named number_in register_name
no_name = refl

page_fits : (word : List ℕ) → page word < 256 ^ 8
page_fits word = numeral_fits 64 word

page_made : (word b : List ℕ) → element_bytes kind.DepositMemory word ≡ Ok b → b ≡ page_bytes word
page_made word b e = by (numeral 64 word) e
  where
    by : (r : Result ℕ AsmFault) → r >>= (λ page. Ok (little_bytes 8 page)) ≡ Ok b → b ≡ little_bytes 8 (or_zero r)
    by (Ok n) e = cc
    by (Err fault) e = cc

name_made : (word b : List ℕ) → element_bytes kind.GetVpRegisters word ≡ Ok b → b ≡ name_bytes word
name_made word b e = by (register_of word) e
  where
    by : (r : Result ℕ AsmFault) → r >>= (λ name. Ok (little_bytes 4 name)) ≡ Ok b → b ≡ little_bytes 4 (or_zero r)
    by (Ok n) e = cc
    by (Err fault) e = cc

pair_made : (word b : List ℕ) → element_bytes kind.SetVpRegisters word ≡ Ok b → b ≡ pair_bytes word
pair_made word b e = by (register_of (name_in word)) (numeral 64 (value_in word)) e
  where
    by : (r v : Result ℕ AsmFault)
        → r >>= (λ name. v >>= (λ value. Ok (little_bytes 4 name ++ replicate 12 0 ++ little_bytes 8 value ++ replicate 8 0))) ≡ Ok b
        → b ≡ little_bytes 4 (or_zero r) ++ replicate 12 0 ++ little_bytes 8 (or_zero v) ++ replicate 8 0
    by (Ok n) (Ok m) e = cc
    by (Ok n) (Err fault) e = cc
    by (Err fault) v e = cc

-- a register's number fits, too
row_fits : (p : RegisterRow → Bool) (rows : List RegisterRow) (row : RegisterRow)
    → list_all (λ row. nat_lt row.name (2 ^ 32)) rows ≡ true → find p rows ≡ Some row → row.name < 2 ^ 32
row_fits p [] row all found = cc
row_fits p (first ∷ rows) row all found = by (p first) found (λ later. row_fits p rows row (grind (arith, nat_tests, all)) later)
  where
    by : (b : Bool) → cond b (Some first) (find p rows) ≡ Some row → (find p rows ≡ Some row → row.name < 2 ^ 32) → row.name < 2 ^ 32
    by true e more = let is : first ≡ row = cc in rw (sym is) (grind (arith, nat_tests, all))
    by false e more = more e

name_fits : (word : List ℕ) → name word < 256 ^ 4
unfolding row_named
name_fits word = by (row_named word) refl
  where
    by : (row : Option RegisterRow) → row_named word ≡ row → or_zero (register_or word row) < 2 ^ 32
    by None e = numeral_fits 32 word
    by (Some row) e = row_fits (λ row. option_map_or (λ name. bytes_eq name word) (register_name row.name) false) REGISTERS row refl e

-- where a header has `len` bytes, a field of an element stands behind it
behind : (header bytes : List ℕ) (len at place n v : ℕ) → length header ≡ len → place ≡ len + at → field bytes at n ≡ v → field (header ++ bytes) place n ≡ v
behind header bytes len at place n v long is reads = ap (λ p. field (header ++ bytes) p n) is ∙ field-second header bytes len at n long ∙ reads

deposited : (words ws : List (List ℕ)) (start : ℕ)
    → call_in kind.DepositMemory (block kind.DepositMemory words (joined page_bytes ws)) (element_at kind.DepositMemory start)
    ≡ call_with kind.DepositMemory words (word_at ws start)
deposited words ws start =
    same2 call.DepositMemory (num words its.PartitionId) (behind (joined (sure words) (parts_of kind.DepositMemory)) (joined page_bytes ws) 8 (start * 8 + 0) (8 + start * 8) 8 _ refl (omega arith)
    (in_element page_bytes page 8 0 8 (λ w. length-bytes_low_first 0 8 (page w)) (λ w rest. here 8 (page w) rest (page_fits w)) no_page (λ s. omega arith) (omega arith) ws start))

got : (words ws : List (List ℕ)) (start : ℕ)
    → call_in kind.GetVpRegisters (block kind.GetVpRegisters words (joined name_bytes ws)) (element_at kind.GetVpRegisters start)
    ≡ call_with kind.GetVpRegisters words (word_at ws start)
got words ws start =
    same3 call.GetVpRegisters (num words its.PartitionId) (num words its.VpIndex) (behind (joined (sure words) (parts_of kind.GetVpRegisters)) (joined name_bytes ws) 16 (start * 4 + 0)
    (16 + start * 4) 4 _ refl (omega arith)
    (in_element name_bytes name 4 0 4 (λ w. length-bytes_low_first 0 4 (name w)) (λ w rest. here 4 (name w) rest (name_fits w)) no_name (λ s. omega arith) (omega arith) ws start))

-- the name and the value in an element of HvSetVpRegisters
pair_name : (w rest : List ℕ) → field (pair_bytes w ++ rest) 0 4 ≡ name (name_in w)
pair_name w rest = here 4 (name (name_in w)) [] (name_fits (name_in w))

pair_value : (w rest : List ℕ) → field (pair_bytes w ++ rest) 16 8 ≡ page (value_in w)
pair_value w rest = here 8 (page (value_in w)) [] (page_fits (value_in w))

no_pair_name : name (name_in []) ≡ 0
no_pair_name = no_name

no_pair_value : page (value_in []) ≡ 0
no_pair_value = no_page

was_set : (words ws : List (List ℕ)) (start : ℕ)
    → call_in kind.SetVpRegisters (block kind.SetVpRegisters words (joined pair_bytes ws)) (element_at kind.SetVpRegisters start)
    ≡ call_with kind.SetVpRegisters words (word_at ws start)
was_set words ws start =
    let header = joined (sure words) (parts_of kind.SetVpRegisters) in
    app (same3 set_registers (num words its.PartitionId) (num words its.VpIndex) (behind header (joined pair_bytes ws) 16 (start * 32 + 0) (16 + start * 32) 4 _ refl (omega arith)
    (in_element pair_bytes (λ w. name (name_in w)) 32 0 4 (λ w. refl) pair_name no_pair_name (λ s. omega arith) (omega arith) ws start)))
    (behind header (joined pair_bytes ws) 16 (start * 32 + 16) (16 + start * 32 + 16) 8 _ refl (omega arith)
    (in_element pair_bytes (λ w. page (value_in w)) 32 16 8 (λ w. refl) pair_value no_pair_value (λ s. omega arith) (omega arith) ws start))

-- a call without elements takes no word for one
refused : (kind : CallKind) (word : List ℕ) → (row_of kind).input_element ≡ 0 → element_bytes kind word ≡ Err UnknownField
refused kind.DepositMemory word none = let no : 8 ≡ 0 = none in absurd (omega (arith, no))
refused kind.GetVpRegisters word none = let no : 4 ≡ 0 = none in absurd (omega (arith, no))
refused kind.SetVpRegisters word none = let no : 32 ≡ 0 = none in absurd (omega (arith, no))
refused kind word none = refl

no_elements : (kind : CallKind) (ws : List (List ℕ)) (list : List ℕ) → (row_of kind).input_element ≡ 0 → all_bytes (element_bytes kind) ws ≡ Ok list → list ≡ []
no_elements kind [] list none e = cc
no_elements kind (w ∷ ws) list none e = by (element_bytes kind w) (refused kind w none) e
  where
    by : (r : Result (List ℕ) AsmFault) → r ≡ Err UnknownField
        → r >>= (λ first. all_bytes (element_bytes kind) ws >>= (λ rest. Ok (first ++ rest))) ≡ Ok list → list ≡ []
    by (Ok first) is e = cc
    by (Err fault) is e = cc

-- a list, with its parts
record IsList (elements header : Result (List ℕ) AsmFault) (list : List ℕ) : Type 0 where
  e : List ℕ
  h : List ℕ
  of_e : elements ≡ Ok e
  of_h : header ≡ Ok h
  is : list ≡ h ++ e

listed : (elements header : Result (List ℕ) AsmFault) (list : List ℕ)
    → elements >>= (λ elements. header >>= (λ header. cond (nat_le (length (header ++ elements)) 4096) (Ok (header ++ elements)) (Err (Script Hex)))) ≡ Ok list
    → IsList elements header list
listed (Err fault) header list e = cc
listed (Ok elements) (Err fault) list e = cc
listed (Ok elements) (Ok header) list e = by (nat_le (length (header ++ elements)) 4096) e
  where
    by : (b : Bool) → cond b (Ok (header ++ elements)) (Err (Script Hex)) ≡ Ok list → IsList (Ok elements) (Ok header) list
    by true e = record { e = elements; h = header; of_e = refl; of_h = refl; is = cc }
    by false e = cc

-- the list as the bytes of its parts
is_block : (kind : CallKind) (fast : Bool) (words : List (List ℕ)) (list : List ℕ) (bytes : List ℕ → List ℕ)
    → ((word b : List ℕ) → element_bytes kind word ≡ Ok b → b ≡ bytes word) → list_of kind fast words ≡ Ok list
    → list ≡ block kind words (joined bytes (elements_of kind fast words))
unfolding list_of
is_block kind fast words list bytes each e =
    let parts = listed (all_bytes (element_bytes kind) (elements_of kind fast words)) (header_of kind words) list e in
    parts.is
    ∙ ap (λ (l : List ℕ). l ++ parts.e) (made (part_bytes words) (sure words) (part_sure words) (parts_of kind) parts.h parts.of_h)
    ∙ ap (λ (l : List ℕ). joined (sure words) (parts_of kind) ++ l) (made (element_bytes kind) bytes each (elements_of kind fast words) parts.e parts.of_e)

pub is_header : (kind : CallKind) (fast : Bool) (words : List (List ℕ)) (list : List ℕ) → (row_of kind).input_element ≡ 0
    → list_of kind fast words ≡ Ok list → list ≡ block kind words []
unfolding list_of
is_header kind fast words list none e =
    let parts = listed (all_bytes (element_bytes kind) (elements_of kind fast words)) (header_of kind words) list e in
    parts.is
    ∙ ap (λ (l : List ℕ). l ++ parts.e) (made (part_bytes words) (sure words) (part_sure words) (parts_of kind) parts.h parts.of_h)
    ∙ ap (λ (l : List ℕ). joined (sure words) (parts_of kind) ++ l) (no_elements kind (elements_of kind fast words) parts.e none parts.of_e)

-- the list of a line by names holds the call with the fields that the line gives
pub holds_list : (kind : CallKind) (fast : Bool) (words : List (List ℕ)) (list : List ℕ) (start : ℕ) → list_of kind fast words ≡ Ok list
    → call_in kind list (element_at kind start) ≡ call_with kind words (word_at (elements_of kind fast words) start)
holds_list kind.DepositMemory fast words list start e =
    ap (λ (l : List ℕ). call_in kind.DepositMemory l (element_at kind.DepositMemory start)) (is_block kind.DepositMemory fast words list page_bytes page_made e)
    ∙ deposited words (elements_of kind.DepositMemory fast words) start
holds_list kind.GetVpRegisters fast words list start e =
    ap (λ (l : List ℕ). call_in kind.GetVpRegisters l (element_at kind.GetVpRegisters start)) (is_block kind.GetVpRegisters fast words list name_bytes name_made e)
    ∙ got words (elements_of kind.GetVpRegisters fast words) start
holds_list kind.SetVpRegisters fast words list start e =
    ap (λ (l : List ℕ). call_in kind.SetVpRegisters l (element_at kind.SetVpRegisters start)) (is_block kind.SetVpRegisters fast words list pair_bytes pair_made e)
    ∙ was_set words (elements_of kind.SetVpRegisters fast words) start
holds_list kind fast words list start e =
    ap (λ (l : List ℕ). call_in kind l (element_at kind start)) (is_header kind fast words list refl e)
    ∙ fixed kind words (element_at kind start) (word_at (elements_of kind fast words) start) refl
