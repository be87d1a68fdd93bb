-- What a suffix supplemental enhancement information unit states of a picture's planes (7.3.5, D.2.19, D.3.19).
use Rattle.std.specs.Prelude.{ℕ, zero, suc, ◌+◌, Bool, ◌&&◌, List, [], ◌∷◌, length, take, drop, slice_index, Option}
use Rattle.std.specs.Prelude.{Some, None, nat_lt, ◌==◌, if◌then◌else◌}

-- payloadType or payloadSize, which is this number so far: bytes FF, each of which adds 255, and then the first other
-- byte; and the bytes behind it
abbrev pub coded_after : ℕ → List ℕ → Option (ℕ × List ℕ)
coded_after n [] = None
coded_after n (byte ∷ bytes) = if byte == 255 then coded_after (n + 255) bytes else Some (n + byte, bytes)

-- sei_message(): its payloadType, the payloadSize bytes of its payload, and the bytes behind it
pub record Message : Type 0 where
  pub payload_type : ℕ
  pub payload : List ℕ
  pub behind : List ℕ

-- a step that may lack bytes, and then another on what it found
abbrev pub then_read : {A B : Type 0} → Option A → (A → Option B) → Option B
then_read None f = None
then_read (Some a) f = f a

-- a payload of this type and size, where there are as many bytes
abbrev pub payload_at : ℕ → ℕ → List ℕ → Option Message
payload_at kind size bytes =
    if nat_lt (length bytes) size then None
    else Some (record { payload_type = kind; payload = take size bytes; behind = drop size bytes })

-- the message with which these bytes begin, if one does
unfoldable pub message_at : List ℕ → Option Message
message_at bytes =
    then_read (coded_after 0 bytes)
    (λ kind. then_read (coded_after 0 kind.1) (λ size. payload_at kind.0 size.0 size.1))

-- a message, and then others
abbrev pub message_and : Option Message → (List ℕ → List Message) → List Message
message_and None later = []
message_and (Some m) later = m ∷ later m.behind

-- the messages with which these bytes begin, up to the first that they break off, and at most so many
abbrev pub messages_up_to : ℕ → List ℕ → List Message
messages_up_to zero bytes = []
messages_up_to (suc n) bytes = message_and (message_at bytes) (messages_up_to n)

-- all messages with which these bytes begin: each has two bytes at least, so there aren't more of them than bytes
abbrev pub messages : List ℕ → List Message
messages bytes = messages_up_to (length bytes) bytes

-- whether a message is a decoded picture hash of three planes by MD5: of payloadType 132, its 49 bytes begin with
-- hash_type 0
abbrev pub states_hashes : Message → Bool
states_hashes m = (m.payload_type == 132) && ((length m.payload == 49) && (slice_index m.payload 0 == 0))

-- picture_md5 of Y, Cb and Cr
abbrev pub hashes_of : Message → List (List ℕ)
hashes_of m = take 16 (drop 1 m.payload) ∷ take 16 (drop 17 m.payload) ∷ take 16 (drop 33 m.payload) ∷ []

-- the hashes of the first message that states some
abbrev pub first_stated : List Message → Option (List (List ℕ))
first_stated [] = None
first_stated (m ∷ later) = if states_hashes m then Some (hashes_of m) else first_stated later

-- the MD5 of the planes Y, Cb and Cr that the payload of a unit states, if it does
unfoldable pub stated_hashes : List ℕ → Option (List (List ℕ))
stated_hashes bytes = first_stated (messages bytes)
