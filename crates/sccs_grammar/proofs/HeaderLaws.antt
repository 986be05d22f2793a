-- A header that is written is read again.
use Rattle.std.proofs.Common.{◌≡◌, ℕ, suc, ◌+◌, List, [], ◌∷◌, ◌++◌, map, length, Ok, Some, refl, ◌∙◌}
use Rattle.sccs_history.specs.History.{IsHeader, IsSpelled}
use Rattle.sccs_history.specs.declared.headers.Record.{Record}
use Rattle.sccs_history.specs.declared.headers.Flag.{Flag}
use Rattle.sccs_history.specs.declared.headers.Header.{Header}
use Rattle.sccs_tokens.specs.Tokens.{token, control}
use Rattle.sccs_grammar.specs.Front.{start, at_table, at_users, at_flags, at_description, line_after, front_from}
use Rattle.sccs_tokens.specs.Written.{flag_line, mark, header_lines}
use Rattle.sccs_grammar.specs.Entries.{Entries}
use Rattle.sccs_tokens.specs.declared.line_tokens.LineToken.TheVariants.{Users, EndUsers, Description, EndDescription}
use Rattle.sccs_grammar.proofs.SectionLaws.{says, users_again, flags_again, description_again}
use Rattle.sccs_grammar.proofs.EntryLaws.{none_lost, whole_table}

pub token_users : token (mark 117) ≡ Some Users
unfolding token control
token_users = refl

pub token_end_users : token (mark 85) ≡ Some EndUsers
unfolding token control
token_end_users = refl

pub token_description : token (mark 116) ≡ Some Description
unfolding token control
token_description = refl

pub token_end_description : token (mark 84) ≡ Some EndDescription
unfolding token control
token_end_description = refl

-- the last line of a header
last_line : (n : ℕ) (entries : Entries) (users : List (List ℕ)) (flags : List Flag) (description rest : List (List ℕ))
    → front_from n (at_description entries users flags description) (mark 84 ∷ rest) ≡ Ok
    (record {
      header = record {
        records = entries.records;
        users = users;
        flags = flags;
        description =
            description;
      };
      line = suc n;
      rest = rest;
    })
unfolding front_from line_after
last_line n entries users flags description rest = rw token_end_description refl

-- a header behind the table
abbrev behind_table : Header → List (List ℕ) → List (List ℕ)
behind_table h rest = h.users ++ (mark 85 ∷ map flag_line h.flags ++ (mark 116 ∷ h.description ++ (mark 84 ∷ rest)))

abbrev parts_of : List Record → Header → Header
parts_of records h = record { records = records; users = h.users; flags = h.flags; description = h.description }

behind_again : (n : ℕ) (entries : Entries) (h : Header) (rest : List (List ℕ)) → IsHeader h
    → (m : ℕ) × (front_from n (at_users entries []) (behind_table h rest) ≡ Ok
    (record { header = parts_of entries.records h; line = m; rest = rest }))
behind_again n entries h rest is =
    let last = mark 84 ∷ rest in
    let lines = h.description ++ last in
    let flags = map flag_line h.flags ++ (mark 116 ∷ lines) in
    let n1 = n + length h.users in
    let n2 = suc n1 + length h.flags in
    let n3 = suc n2 + length h.description in (
      suc n3,
      users_again n entries [] h.users (mark 85 ∷ flags) is.users
          ∙ (says n1 (at_users entries h.users) (at_flags entries h.users []) (mark 85) flags EndUsers token_end_users
          refl refl
          ∙ (flags_again (suc n1) entries h.users h.flags (mark 116 ∷ lines) is.flags is.letters
          ∙ (says n2 (at_flags entries h.users h.flags) (at_description entries h.users h.flags [])
          (mark 116) lines Description token_description refl refl
          ∙ (description_again (suc n2) entries h.users h.flags [] h.description last is.description
          ∙ last_line n3 entries h.users h.flags h.description rest)))),
    )

pub header_again : (n : ℕ) (h : Header) (rest : List (List ℕ)) → IsHeader h → IsSpelled h
    → (m : ℕ) × (front_from n start (header_lines h rest) ≡ Ok (record { header = h; line = m; rest = rest }))
header_again n h rest is spells =
    let table = whole_table n h.records (mark 117 ∷ behind_table h rest) is.table.falls is.table.each spells.records
    is.table.sids in
    let entries : Entries = record { records = h.records; lines = table.1.0 } in
    let behind = behind_again (suc table.0) entries h rest is in (
      behind.0,
      table.1.1
          ∙ (says table.0 (at_table entries) (at_users entries []) (mark 117) (behind_table h rest) Users token_users
          (rw (none_lost h.records h.records table.1.0 is.table.each, is.table.some) refl) refl
          ∙ behind.1),
    )
