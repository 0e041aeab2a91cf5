-- Flat states that differ only in the order of messages across places.
use Rattle.std.specs.Prelude.{◌≡◌, List}
use Rattle.hv_policy.specs.Flat.{Flat, MailRow}
use Rattle.hv_policy.specs.Mail.{Place, mail_at}

-- two lists have equal messages at every place
abbrev pub IsSameMail : List MailRow → List MailRow → Type 0
IsSameMail mail others = (place : Place) → mail_at place mail ≡ mail_at place others

-- everything but the messages is equal, and the messages agree place by place. No rule, reply or change
-- depends on more
pub record IsSame (f g : Flat) : Type 0 where
  pub part : f.part ≡ g.part
  pub page : f.page ≡ g.page
  pub vp : f.vp ≡ g.vp
  pub port : f.port ≡ g.port
  pub conn : f.conn ≡ g.conn
  pub mail : IsSameMail f.mail g.mail
  pub next : f.next ≡ g.next
  pub served : f.served ≡ g.served
