-- The definitions computed: sealing and opening over a toy block function, against the second implementation, which
-- holds the same table. This refuses what no theorem over every block function can: a tag without the swap, b1 set
-- whenever the text is empty, an extra padding block, all 16 bytes of Y added in a partial block.
use mathlib.Core.Path.{◌≡◌, refl}
use mathlib.Core.Bool.{Bool, true, false}
use mathlib.Core.List.{List, [], ◌∷◌}
use Prim.Native.Nat.{ℕ, zero, suc, ◌+◌, ◌*◌, ◌%◌, ◌^◌}
use native.Mathlib.Omega.{arith}
use lib.Bits.{bit_xor}
use Rattle.words.specs.Bytes.{number, bytes, filled, plus}
use Rattle.words.specs.Iterate.{iterate}
use Rattle.mode.specs.Demands.{Alike}
use Rattle.mode.specs.Hyena.{double, walk, output, feedback, feed, start_block, data_first, data_each, data_last}
use Rattle.mode.specs.Hyena.{after_data, text_block, after_text, swapped, ended, outputs, tag}

toy : ℕ → ℕ
toy x = bit_xor ((x * 0x9E3779B97F4A7C15F39CC0605CEDC835 + 0x1234567) % 2 ^ 128) 0xDEADBEEF

-- n bytes from b on, each d more
count : ℕ → ℕ → ℕ → List ℕ
count b d zero = []
count b d (suc n) = b ∷ count ((b + d) % 256) d n

nonce : List ℕ
nonce = count 200 1 12

-- the output, as the number of its bytes, and the tag; with associated data of a bytes
both : Bool → ℕ → List ℕ → List ℕ
both opening a d = number (outputs toy opening nonce (count 3 7 a) d) ∷ tag toy opening nonce (count 3 7 a) d ∷ []

-- a text of n bytes
text : ℕ → List ℕ
text n = count 250 11 n

vectors : ◌≡◌ {A = List (List ℕ)}
    (
    both false 0 (text 0)
    ∷ both false 0 (text 1)
    ∷ both false 5 (text 0)
    ∷ both false 8 (text 8)
    ∷ both false 16 (text 15)
    ∷ both false 17 (text 16)
    ∷ both false 20 (text 17)
    ∷ both false 32 (text 32)
    ∷ both false 33 (text 33)
    ∷ both true 0 (bytes 1 0xB7)
    ∷ both true 20 (bytes 17 0x712DEFE74C58652417D28356A2E4ED7347)
    ∷ both true 32 (bytes 32 0x323EF9031F55980B9C41357DE34191B054965A7A8779249C613C92D1AD353765)
    ∷ []
    )
    (
    (0 ∷ 0x4DDC923B46377EEE0C2443BC69D2723D ∷ [])
    ∷ (0xB7 ∷ 0xADAA49EE4BBED69DFAF98929AC863053 ∷ [])
    ∷ (0 ∷ 0xD1DD7A156ED1FB0D69C2F8C962E295C7 ∷ [])
    ∷ (0xA6790B15FDF7A8B5 ∷ 0x5A483010F02702E8F2A73A28C46A4769 ∷ [])
    ∷ (0x44D82B54A330A27C36C7AAD795FFEA ∷ 0x6729EC86CF66B507E60E58669C49581E ∷ [])
    ∷ (0x74C7C59249730143E939931ECAE89C47 ∷ 0x679E403ED153B751E4703DB793585EA9 ∷ [])
    ∷ (0x712DEFE74C58652417D28356A2E4ED7347 ∷ 0x263B1BA39924BE57501A66AB24355AB6 ∷ [])
    ∷ (0x323EF9031F55980B9C41357DE34191B054965A7A8779249C613C92D1AD353765 ∷ 0xB0A018DEF388FB864A900722CC7EE941 ∷ [])
    ∷ (0x82C254FE8B5237F3B11578D18F67D97BFFA59284ADE95BCD5E00CD5BD5D6D08112 ∷ 0x1BE4E1FCE257E9B708B9727911E8F7D3 ∷ [])
    ∷ (number (text 1) ∷ 0xADAA49EE4BBED69DFAF98929AC863053 ∷ [])
    ∷ (number (text 17) ∷ 0x263B1BA39924BE57501A66AB24355AB6 ∷ [])
    ∷ (number (text 32) ∷ 0xB0A018DEF388FB864A900722CC7EE941 ∷ [])
    ∷ []
    )
unfolding both text nonce count toy outputs tag ended start_block data_first data_each data_last after_data text_block
    after_text walk feed feedback output swapped double iterate plus number bytes filled
vectors = refl

-- demand 3 speaks of something
some_alike : Alike (1 ∷ []) (2 ∷ [])
some_alike =
    record {
      some-c = λ e. omega (arith, e);
      some-d = λ e. omega (arith, e);
      as_many = refl;
      equal = λ i h. absurd (omega arith);
      ends = refl;
    }
