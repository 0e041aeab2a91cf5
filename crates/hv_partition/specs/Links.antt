-- How a port and a connection are stored, each as the tuple of its fields.
use Rattle.std.specs.Prelude.{◌≡◌, ℕ, zero, suc, Option, None, Some, refl}
use Rattle.std.specs.Coded.{Coded, code_by, coded×, coded_ℕ, coded_option}
use Rattle.hv_defs.specs.declared.aim.Aim.{Aim}
use Rattle.hv_defs.specs.declared.aim.Aim.TheVariants.{One, Any}
use Rattle.hv_defs.specs.declared.port_kind.PortKind.{PortKind}
use Rattle.hv_defs.specs.declared.port_kind.PortKind.TheVariants.{Event, Message}
use Rattle.hv_ports.specs.declared.ports.Conn.{Conn}
use Rattle.hv_ports.specs.declared.ports.Port.{Port}

-- a port's kind is stored as its number
abbrev pub kind_number : PortKind → ℕ
kind_number Message = 1
kind_number Event = 2

abbrev pub kind_of : ℕ → PortKind
kind_of zero = Message
kind_of (suc zero) = Message
kind_of (suc (suc _)) = Event

abbrev pub kind_of-number : (kind : PortKind) → kind_of (kind_number kind) ≡ kind
kind_of-number Message = refl
kind_of-number Event = refl

abbrev pub kind_code : Coded PortKind
kind_code = code_by ℕ coded_ℕ kind_number kind_of kind_of-number

-- an aim is stored as the index of its processor, or as none for any processor
abbrev pub index_of : Aim → Option ℕ
index_of (One index) = Some index
index_of Any = None

abbrev pub aim_of : Option ℕ → Aim
aim_of None = Any
aim_of (Some index) = One index

abbrev pub aim_of-index : (aim : Aim) → aim_of (index_of aim) ≡ aim
aim_of-index (One index) = refl
aim_of-index Any = refl

abbrev pub aim_code : Coded Aim
aim_code = code_by (Option ℕ) (coded_option coded_ℕ) index_of aim_of aim_of-index

abbrev pub port_code : Coded Port
port_code =
    code_by (PortKind × (ℕ × (ℕ × (Aim × (ℕ × (ℕ × ℕ))))))
    (coded× kind_code (coded× coded_ℕ (coded× coded_ℕ
    (coded× aim_code (coded× coded_ℕ (coded× coded_ℕ coded_ℕ))))))
    (λ p. (p.kind, (p.peer, (p.sint, (p.vp, (p.base, (p.count, p.born)))))))
    (λ t. record {
      kind = t.0;
      peer = t.1.0;
      sint = t.1.1.0;
      vp = t.1.1.1.0;
      base = t.1.1.1.1.0;
      count =
          t.1.1.1.1.1.0;
      born = t.1.1.1.1.1.1;
    })
    (λ _. refl)

abbrev pub conn_code : Coded Conn
conn_code =
    code_by (ℕ × (ℕ × (PortKind × ℕ)))
    (coded× coded_ℕ (coded× coded_ℕ (coded× kind_code coded_ℕ)))
    (λ c. (c.part, (c.port, (c.kind, c.born))))
    (λ t. record { part = t.0; port = t.1.0; kind = t.1.1.0; born = t.1.1.1 })
    (λ _. refl)
