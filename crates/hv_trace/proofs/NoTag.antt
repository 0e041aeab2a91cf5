-- An object has no `<`, so that it ends no element of a page.
use Rattle.std.proofs.Common.{◌≡◌, ◌≢◌, ◌==◌, ◌%◌, ◌/◌, ℕ, zero, suc, ◌+◌, Bool, true, false, not, ◌&&◌, cond, List, [], ◌∷◌, ◌++◌, refl, sym, ap, ◌∙◌, subst, arith, codes}
use Rattle.std.proofs.Common.{decimal, inl, inr, Option, Some, None, All, nat_lt, slice_index, Global}
use Rattle.std.specs.Fmt.{digit_glyph, digits, digits_onto}
use Rattle.std.specs.List.{list_all}
use Rattle.std.specs.FinSet as set
use Rattle.std.proofs.lemmas.Bool.{false≢true}
use Rattle.std.proofs.lemmas.Bool.Decides.{nat_tests}
use Rattle.std.proofs.lemmas.List.Elements.{All-cons, All-head, All-nil, All-tail}
use Rattle.std.proofs.lemmas.List.Folds.{list_all-append}
use Rattle.hex.specs.Hex.{encode_lower, encode_with, lower_digits}
use Rattle.hv_abi.specs.CallRow.{kind_of}
use Rattle.hv_abi.specs.InputValue.{input_value}
use Rattle.hv_abi.specs.Status.{status_name}
use Rattle.hv_abi.specs.declared.call_kind.CallKind.{CallKind}
use Rattle.hv_abi.specs.declared.call_kind.CallKind.TheVariants as call
use Rattle.hv_abi.specs.declared.status.Status.{Status}
use Rattle.hv_abi.specs.declared.status.Status.TheVariants as status
use Rattle.hv_admit.specs.Effect.{has_bit}
use Rattle.hv_admit.specs.declared.effect.Effect.{Effect}
use Rattle.hv_admit.specs.declared.effect.Effect.TheVariants as effect
use Rattle.hv_admit.specs.declared.effect.FlagChange.{FlagChange}
use Rattle.hv_admit.specs.declared.effect.Synic.{Synic}
use Rattle.hv_history.specs.declared.entry.Entry.{Entry}
use Rattle.hv_policy.specs.Result.{completed_reps}
use Rattle.hv_policy.specs.Rule.{rule_name}
use Rattle.hv_policy.specs.declared.event.Action.{Action}
use Rattle.hv_policy.specs.declared.event.Action.TheVariants as action
use Rattle.hv_policy.specs.declared.event.Caller.{Caller}
use Rattle.hv_policy.specs.declared.reply.Reply.{Reply}
use Rattle.hv_policy.specs.declared.reply.Reply.TheVariants.{Served, More, Denied, Fault}
use Rattle.hv_policy.specs.declared.rule.Rule.{Rule}
use Rattle.hv_policy.specs.declared.rule.Rule.TheVariants as rule
use Rattle.hv_trace.specs.Effect.{array_text, bool_text, effect_text, flag_text, gained_text, joined, lost_text, maybe_text, picked, processor_text}
use Rattle.hv_trace.specs.Members.{AreMembers, IsMember, IsValue, with_commas}
use Rattle.hv_trace.specs.Trace.{IsObject, access_text, asked_text, call_text, event_text, name_text, no_result_text, output_text, place_text, reply_text, result_text, rule_text, served_text}
use Rattle.hv_trace.specs.Trace.{status_text}
use Rattle.hv_words.specs.Names.{call_name}
use Rattle.hv_words.specs.Words.{IsQuotable, StandsForItself}

abbrev fits : ℕ → Bool
fits byte = not (byte == 60)

-- none of the bytes is `<`
record Fits (text : List ℕ) : Type 0 where
  is : list_all fits text ≡ true

lit : (text : List ℕ) → list_all fits text ≡ true → Fits text
lit text is = record { is = is }

both : (a b : Bool) → a ≡ true → b ≡ true → (a && b) ≡ true
both true b first second = second
both false b first second = absurd (false≢true first)

first_of : (a b : Bool) → (a && b) ≡ true → a ≡ true
first_of true b is = refl
first_of false b is = is

second_of : (a b : Bool) → (a && b) ≡ true → b ≡ true
second_of true b is = is
second_of false b is = absurd (false≢true is)

-- one text after another
infixl 20 ◌&◌
◌&◌ : {a b : List ℕ} → Fits a → Fits b → Fits (a ++ b)
◌&◌ {a} {b} first second = record { is = list_all-append fits a b ∙ both (list_all fits a) (list_all fits b) first.is second.is }

apart : (byte : ℕ) → fits byte ≡ true → byte ≢ 60
apart byte is = λ same. let no : fits byte ≡ false = ap fits same in false≢true (sym no ∙ is)

other : (byte : ℕ) → byte ≢ 60 → fits byte ≡ true
other byte apart = at (byte == 60) refl
  where
    at : (t : Bool) → (byte == 60) ≡ t → not t ≡ true
    at true is = let same : byte ≡ 60 = grind (arith, nat_tests, is) in absurd (apart same)
    at false is = refl

all_apart : (text : List ℕ) → list_all fits text ≡ true → All (λ byte. byte ≢ 60) text
all_apart [] is = All-nil (λ byte. byte ≢ 60)
all_apart (byte ∷ text) is =
    All-cons (λ byte. byte ≢ 60) byte text (apart byte (first_of (fits byte) (list_all fits text) is))
    (all_apart text (second_of (fits byte) (list_all fits text) is))

-- words
no_open : (byte : ℕ) → StandsForItself byte → byte ≢ 60
no_open byte (low, high, quote, ampersand, apart, slash) = apart

quotable_is : (text : List ℕ) → IsQuotable text → list_all fits text ≡ true
quotable_is [] quotable = refl
quotable_is (byte ∷ text) quotable =
    both (fits byte) (list_all fits text) (other byte (no_open byte (All-head StandsForItself byte text quotable)))
    (quotable_is text (All-tail StandsForItself byte text quotable))

words_fit : (text : List ℕ) → IsQuotable text → Fits text
words_fit text quotable = record { is = quotable_is text quotable }

-- numbers
glyph_fits : (d : ℕ) (t : Bool) → nat_lt d 10 ≡ t → fits (cond t (48 + d) (87 + d)) ≡ true
glyph_fits d true is = grind (arith, nat_tests, is)
glyph_fits d false is = grind (arith, nat_tests)

chosen : (t : Bool) (a b : List ℕ) → list_all fits a ≡ true → list_all fits b ≡ true → list_all fits (cond t a b) ≡ true
chosen true a b first second = first
chosen false a b first second = second

digits_fit : (k n : ℕ) (acc : List ℕ) → list_all fits acc ≡ true → list_all fits (digits_onto k 10 false n acc) ≡ true
digits_fit zero n acc is = is
digits_fit (suc k) n acc is =
    let glyph : ℕ = digit_glyph false (n % 10) in
    let more : list_all fits (glyph ∷ acc) ≡ true = both (fits glyph) (list_all fits acc) (glyph_fits (n % 10) (nat_lt (n % 10) 10) refl) is in
    chosen (n / 10 == 0) (glyph ∷ acc) (digits_onto k 10 false (n / 10) (glyph ∷ acc)) more (digits_fit k (n / 10) (glyph ∷ acc) more)

decimal_fits : (n : ℕ) → Fits (decimal n)
unfolding digits
decimal_fits n = record { is = digits_fit 64 n [] refl }

-- hexadecimal digits
digit_fits : (t : List ℕ) (k : ℕ) → list_all fits t ≡ true → fits (slice_index t k) ≡ true
digit_fits [] k is = refl
digit_fits (c ∷ t) zero is = first_of (fits c) (list_all fits t) is
digit_fits (c ∷ t) (suc k) is = digit_fits t k (second_of (fits c) (list_all fits t) is)

hex_is : (bytes : List ℕ) → list_all fits (encode_lower bytes) ≡ true
unfolding encode_with
hex_is [] = refl
hex_is (b ∷ bytes) =
    both (fits (slice_index lower_digits (b / 16))) _ (digit_fits lower_digits (b / 16) refl)
    (both (fits (slice_index lower_digits (b % 16))) _ (digit_fits lower_digits (b % 16) refl) (hex_is bytes))

hex_fits : (bytes : List ℕ) → Fits (encode_lower bytes)
hex_fits bytes = record { is = hex_is bytes }

-- names
call_fits : (kind : CallKind) → Fits (call_name kind)
call_fits call.CreatePartition = lit (call_name call.CreatePartition) refl
call_fits call.InitializePartition = lit (call_name call.InitializePartition) refl
call_fits call.FinalizePartition = lit (call_name call.FinalizePartition) refl
call_fits call.DeletePartition = lit (call_name call.DeletePartition) refl
call_fits call.GetPartitionProperty = lit (call_name call.GetPartitionProperty) refl
call_fits call.SetPartitionProperty = lit (call_name call.SetPartitionProperty) refl
call_fits call.GetPartitionId = lit (call_name call.GetPartitionId) refl
call_fits call.GetNextChildPartition = lit (call_name call.GetNextChildPartition) refl
call_fits call.DepositMemory = lit (call_name call.DepositMemory) refl
call_fits call.WithdrawMemory = lit (call_name call.WithdrawMemory) refl
call_fits call.GetMemoryBalance = lit (call_name call.GetMemoryBalance) refl
call_fits call.CreateVp = lit (call_name call.CreateVp) refl
call_fits call.DeleteVp = lit (call_name call.DeleteVp) refl
call_fits call.GetVpRegisters = lit (call_name call.GetVpRegisters) refl
call_fits call.SetVpRegisters = lit (call_name call.SetVpRegisters) refl
call_fits call.DeletePort = lit (call_name call.DeletePort) refl
call_fits call.DisconnectPort = lit (call_name call.DisconnectPort) refl
call_fits call.PostMessage = lit (call_name call.PostMessage) refl
call_fits call.SignalEvent = lit (call_name call.SignalEvent) refl
call_fits call.CreatePort = lit (call_name call.CreatePort) refl
call_fits call.ConnectPort = lit (call_name call.ConnectPort) refl

status_name_fits : (s : Status) → Fits (status_name s)
status_name_fits status.Success = lit (status_name status.Success) refl
status_name_fits status.InvalidHypercallCode = lit (status_name status.InvalidHypercallCode) refl
status_name_fits status.InvalidHypercallInput = lit (status_name status.InvalidHypercallInput) refl
status_name_fits status.InvalidAlignment = lit (status_name status.InvalidAlignment) refl
status_name_fits status.InvalidParameter = lit (status_name status.InvalidParameter) refl
status_name_fits status.AccessDenied = lit (status_name status.AccessDenied) refl
status_name_fits status.InvalidPartitionState = lit (status_name status.InvalidPartitionState) refl
status_name_fits status.UnknownProperty = lit (status_name status.UnknownProperty) refl
status_name_fits status.PropertyValueOutOfRange = lit (status_name status.PropertyValueOutOfRange) refl
status_name_fits status.InsufficientMemory = lit (status_name status.InsufficientMemory) refl
status_name_fits status.PartitionTooDeep = lit (status_name status.PartitionTooDeep) refl
status_name_fits status.InvalidPartitionId = lit (status_name status.InvalidPartitionId) refl
status_name_fits status.InvalidVpIndex = lit (status_name status.InvalidVpIndex) refl
status_name_fits status.InvalidPortId = lit (status_name status.InvalidPortId) refl
status_name_fits status.InvalidConnectionId = lit (status_name status.InvalidConnectionId) refl
status_name_fits status.InsufficientBuffers = lit (status_name status.InsufficientBuffers) refl
status_name_fits status.InvalidSynicState = lit (status_name status.InvalidSynicState) refl
status_name_fits status.ObjectInUse = lit (status_name status.ObjectInUse) refl
status_name_fits status.NoResources = lit (status_name status.NoResources) refl

rule_name_fits : (r : Rule) → Fits (rule_name r)
rule_name_fits rule.CallerExists = lit (rule_name rule.CallerExists) refl
rule_name_fits rule.CallerActive = lit (rule_name rule.CallerActive) refl
rule_name_fits rule.CallerVpExists = lit (rule_name rule.CallerVpExists) refl
rule_name_fits rule.CallCode = lit (rule_name rule.CallCode) refl
rule_name_fits rule.InputValue = lit (rule_name rule.InputValue) refl
rule_name_fits rule.Alignment = lit (rule_name rule.Alignment) refl
rule_name_fits rule.Parameters = lit (rule_name rule.Parameters) refl
rule_name_fits rule.Privilege = lit (rule_name rule.Privilege) refl
rule_name_fits rule.TargetExists = lit (rule_name rule.TargetExists) refl
rule_name_fits rule.TargetScope = lit (rule_name rule.TargetScope) refl
rule_name_fits rule.PropertyKnown = lit (rule_name rule.PropertyKnown) refl
rule_name_fits rule.TargetState = lit (rule_name rule.TargetState) refl
rule_name_fits rule.NoChildren = lit (rule_name rule.NoChildren) refl
rule_name_fits rule.Depth = lit (rule_name rule.Depth) refl
rule_name_fits rule.PeerExists = lit (rule_name rule.PeerExists) refl
rule_name_fits rule.Connection = lit (rule_name rule.Connection) refl
rule_name_fits rule.Port = lit (rule_name rule.Port) refl
rule_name_fits rule.Entitlement = lit (rule_name rule.Entitlement) refl
rule_name_fits rule.VpExists = lit (rule_name rule.VpExists) refl
rule_name_fits rule.PropertyRange = lit (rule_name rule.PropertyRange) refl
rule_name_fits rule.Operand = lit (rule_name rule.Operand) refl
rule_name_fits rule.VpReady = lit (rule_name rule.VpReady) refl
rule_name_fits rule.PortRoom = lit (rule_name rule.PortRoom) refl
rule_name_fits rule.Pages = lit (rule_name rule.Pages) refl
rule_name_fits rule.MsrKnown = lit (rule_name rule.MsrKnown) refl
rule_name_fits rule.MsrPrivilege = lit (rule_name rule.MsrPrivilege) refl
rule_name_fits rule.MsrWrite = lit (rule_name rule.MsrWrite) refl

-- members
value_fits : (value : List ℕ) → IsValue value → Fits value
value_fits value (inl null) = subst Fits (sym null) (lit (codes "null") refl)
value_fits value (inr (inl number)) = subst Fits (sym number.1) (decimal_fits number.0)
value_fits value (inr (inr text)) =
    subst Fits (sym text.2) (lit (codes "\"") refl & words_fit text.0 text.1 & lit (codes "\"") refl)

member_fits : (text : List ℕ) → IsMember text → Fits text
member_fits text (name, value, quotable, is_value, is) =
    subst Fits (sym is) (lit (codes "\"") refl & words_fit name quotable & lit (codes "\":") refl & value_fits value is_value)

commas_fit : (texts : List (List ℕ)) → All IsMember texts → Fits (with_commas texts)
commas_fit [] are = lit [] refl
commas_fit (text ∷ []) are = member_fits text (All-head IsMember text [] are)
commas_fit (text ∷ next ∷ texts) are =
    member_fits text (All-head IsMember text (next ∷ texts) are) & lit (codes ",") refl
    & commas_fit (next ∷ texts) (All-tail IsMember text (next ∷ texts) are)

members_fit : (text : List ℕ) → AreMembers text → Fits text
members_fit text (members, all, is) = subst Fits (sym is) (commas_fit members all)

-- the event, its processor and its line
processor_fits : (part vp : ℕ) → Fits (processor_text part vp)
unfolding processor_text
processor_fits part vp =
    lit (codes "\"") refl & decimal_fits part & lit (codes ".") refl & decimal_fits vp & lit (codes "\"") refl

place_fits : (number : ℕ) (by : Caller) (line : ℕ) → Fits (place_text number by line)
unfolding place_text
place_fits number by line =
    lit (codes "{\"event\":") refl & decimal_fits number & lit (codes ",\"vp\":") refl & processor_fits by.part by.vp
    & lit (codes ",\"line\":") refl & decimal_fits line

-- what it asks for
name_fits : (kind : Option CallKind) → Fits (name_text kind)
name_fits None = lit (codes "null") refl
name_fits (Some kind) = lit (codes "\"") refl & call_fits kind & lit (codes "\"") refl

asked_fits : (what : Action Global) → Fits (asked_text what)
unfolding call_text
asked_fits (action.Hypercall frame) =
    lit (codes ",\"kind\":\"hypercall\",\"name\":") refl & name_fits (kind_of (input_value frame.rcx).call)
asked_fits (action.ReadMsr msr) = lit (access_text (codes "ReadMsr")) refl
asked_fits (action.WriteMsr msr value) = lit (access_text (codes "WriteMsr")) refl
asked_fits (action.ReadSlot sint) = lit (access_text (codes "ReadSlot")) refl
asked_fits (action.ClearSlot sint) = lit (access_text (codes "ClearSlot")) refl
asked_fits (action.ReadFlags sint) = lit (access_text (codes "ReadFlags")) refl
asked_fits (action.ClearFlag sint flag) = lit (access_text (codes "ClearFlag")) refl
asked_fits action.TakeInterrupt = lit (access_text (codes "TakeInterrupt")) refl

-- the reply
result_fits : (s : Status) (reps : ℕ) → Fits (result_text s reps)
unfolding result_text status_text
result_fits s reps =
    (lit (codes ",\"status\":\"HV_STATUS_") refl & status_name_fits s & lit (codes "\"") refl)
    & lit (codes ",\"reps\":") refl & decimal_fits reps

no_result_fits : Fits no_result_text
no_result_fits = lit no_result_text refl

served_fits : (what : Action Global) → Fits (served_text what)
served_fits (action.Hypercall frame) = result_fits status.Success (completed_reps frame.rcx)
served_fits (action.ReadMsr msr) = no_result_fits
served_fits (action.WriteMsr msr value) = no_result_fits
served_fits (action.ReadSlot sint) = no_result_fits
served_fits (action.ClearSlot sint) = no_result_fits
served_fits (action.ReadFlags sint) = no_result_fits
served_fits (action.ClearFlag sint flag) = no_result_fits
served_fits action.TakeInterrupt = no_result_fits

output_fits : (output : List ℕ) → Fits (output_text output)
unfolding output_text
output_fits output =
    lit (codes ",\"rule\":null,\"reason\":null,\"output\":\"") refl & hex_fits output & lit (codes "\"") refl

rule_fits : (r : Rule) (reason : List ℕ) → IsQuotable reason → Fits (rule_text r reason)
unfolding rule_text
rule_fits r reason quotable =
    (lit (codes ",\"rule\":\"") refl & rule_name_fits r)
    & (lit (codes "\",\"reason\":\"") refl & words_fit reason quotable & lit (codes "\",\"output\":\"\"") refl)

reply_fits : (what : Action Global) (reply : Reply) (reason : List ℕ) → IsQuotable reason → Fits (reply_text what reply reason)
reply_fits what (Served output) reason quotable =
    lit (codes ",\"reply\":\"served\"") refl & served_fits what & output_fits output
reply_fits what (More next output) reason quotable =
    lit (codes ",\"reply\":\"more\"") refl & result_fits status.Success next & output_fits output
reply_fits what (Denied r s reps) reason quotable =
    lit (codes ",\"reply\":\"denied\"") refl & result_fits s reps & rule_fits r reason quotable
reply_fits what (Fault r) reason quotable =
    lit (codes ",\"reply\":\"fault\"") refl & no_result_fits & rule_fits r reason quotable

-- the effect
joined_fits : (ns : List ℕ) → Fits (joined ns)
joined_fits [] = lit [] refl
joined_fits (n ∷ []) = decimal_fits n
joined_fits (n ∷ m ∷ ns) = decimal_fits n & lit (codes ",") refl & joined_fits (m ∷ ns)

array_fits : (ns : List ℕ) → Fits (array_text ns)
unfolding array_text
array_fits ns = lit (codes "[") refl & joined_fits ns & lit (codes "]") refl

bool_fits : (is : Bool) → Fits (bool_text is)
bool_fits true = lit (codes "true") refl
bool_fits false = lit (codes "false") refl

maybe_fits : (o : Option ℕ) → Fits (maybe_text o)
maybe_fits None = lit (codes "null") refl
maybe_fits (Some n) = decimal_fits n

flag_fits : (o : Option FlagChange) → Fits (flag_text o)
flag_fits None = lit (codes "null") refl
flag_fits (Some c) =
    lit (codes "{\"sint\":") refl & decimal_fits c.sint & lit (codes ",\"flag\":") refl & decimal_fits c.flag
    & lit (codes ",\"set\":") refl & bool_fits c.is_set & lit (codes "}") refl

gained_fits : (s : Synic) → Fits (gained_text s)
unfolding gained_text
gained_fits s =
    (lit (codes ",\"shown\":") refl & array_fits (picked (has_bit s.shown) 16))
    & (lit (codes ",\"waiting\":") refl & maybe_fits s.waiting) & (lit (codes ",\"flag\":") refl & flag_fits s.flag)
    & (lit (codes ",\"raised\":") refl & array_fits (picked (set.contains s.raised) 256))

lost_fits : (s : Synic) → Fits (lost_text s)
unfolding lost_text
lost_fits s =
    lit (codes ",\"taken\":") refl & maybe_fits s.taken & lit (codes ",\"freed\":") refl & maybe_fits s.freed
    & lit (codes "}") refl

effect_fits : (e : Effect) → Fits (effect_text e)
unfolding effect_text
effect_fits effect.Nothing = lit (codes "{\"kind\":\"nothing\"}") refl
effect_fits (effect.Synic s) =
    (lit (codes "{\"kind\":\"synic\",\"vp\":") refl & processor_fits s.part s.vp) & gained_fits s & lost_fits s
effect_fits (effect.Page page owner pooled) =
    (lit (codes "{\"kind\":\"page\",\"page\":") refl & decimal_fits page)
    & (lit (codes ",\"owner\":") refl & decimal_fits owner)
    & (lit (codes ",\"pooled\":") refl & bool_fits pooled) & lit (codes "}") refl
effect_fits (effect.Pages from to) =
    (lit (codes "{\"kind\":\"pages\",\"from\":") refl & decimal_fits from)
    & (lit (codes ",\"to\":") refl & decimal_fits to) & lit (codes "}") refl
effect_fits (effect.Processor part vp) =
    lit (codes "{\"kind\":\"processor\",\"vp\":") refl & processor_fits part vp & lit (codes "}") refl
effect_fits (effect.Partition part) =
    lit (codes "{\"kind\":\"partition\",\"partition\":") refl & decimal_fits part & lit (codes "}") refl

-- the object
event_fits : (what : Action Global) (reply : Reply) (e : Effect) (fields reason : List ℕ) → AreMembers fields → IsQuotable reason
    → Fits (event_text what reply e fields reason)
unfolding event_text
event_fits what reply e fields reason members quotable =
    asked_fits what & (lit (codes ",\"fields\":{") refl & members_fit fields members & lit (codes "}") refl)
    & reply_fits what reply reason quotable
    & (lit (codes ",\"effect\":") refl & effect_fits e & lit (codes "}\n") refl)

object_fits : (number : ℕ) (entry : Entry Global) (e : Effect) (text : List ℕ) → IsObject number entry e text → Fits text
object_fits number entry e text o =
    subst Fits (sym o.is)
    (place_fits number entry.event.by o.line & event_fits entry.event.what entry.reply e o.fields o.reason o.members o.quotable)

-- words in a line, and an object
pub row_apart : (number : ℕ) (entry : Entry Global) (e : Effect) (words text : List ℕ) → IsQuotable words → IsObject number entry e text
    → All (λ byte. byte ≢ 60) (words ++ codes "\n" ++ text)
row_apart number entry e words text quotable is =
    all_apart (words ++ codes "\n" ++ text) (words_fit words quotable & lit (codes "\n") refl & object_fits number entry e text is).is
