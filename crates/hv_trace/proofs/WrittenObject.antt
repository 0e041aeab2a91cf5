-- An object that was written.
use Rattle.std.proofs.Common.{ℕ, List, refl, Option, Result, Ok, Err, OnOk, Global}
use Rattle.std.specs.Io.KnownBytes.{Appends}
use Rattle.std.proofs.KnownBytes.{Appends-trans}
use Rattle.hv_admit.specs.declared.effect.Effect.{Effect}
use Rattle.hv_explain.specs.Written.{HasPut, entry_of}
use Rattle.hv_policy.specs.declared.event.Action.{Action}
use Rattle.hv_policy.specs.declared.event.Caller.{Caller}
use Rattle.hv_policy.specs.declared.reply.Reply.{Reply}
use Rattle.hv_trace.specs.Members.{AreMembers}
use Rattle.hv_trace.specs.Trace.{event_text, object_text, place_text, traces}
use Rattle.hv_words.specs.Words.{IsQuotable}

-- its start was written, and then its rest
pub object_put : {T E : Type 0} (r : Result T E) (u v w : Option (List ℕ)) (number line : ℕ) (by : Caller) (what : Action Global) (reply : Reply) (effect : Effect) (fields reason : List ℕ)
    → AreMembers fields → IsQuotable reason
    → Appends u v (place_text number by line) → OnOk r (Appends v w (event_text what reply effect fields reason)) → OnOk r (HasPut (traces number (entry_of by what reply) effect) u w)
object_put (Ok value) u v w number line by what reply effect fields reason members quotable first rest = record {
  text = object_text number line (entry_of by what reply) effect fields reason;
  kind = record { line = line; fields = fields; reason = reason; members = members; quotable = quotable; is = refl };
  wrote = Appends-trans u v w _ _ first rest;
}
object_put (Err error) u v w number line by what reply effect fields reason members quotable first rest = tt
