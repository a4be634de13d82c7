-- The two programs of a load, by the pages that they change: their sources, and the bytes that stand at their addresses.
use Rattle.std.specs.Prelude.{ℕ, ◌+◌, ◌*◌, List, [], ◌∷◌, ◌++◌, codes, decimal, replicate}
use Rattle.aout_image.specs.Image.{word_bytes}

-- lines, each with its end
abbrev pub source_text : List (List ℕ) → List ℕ
source_text [] = []
source_text (line ∷ lines) = line ++ (codes "\n" ++ source_text lines)

-- ---- `w`

-- It breaks, and forks. The parent goes thirty times round its pages, changing each, waits for the child, and writes.
-- The child runs `v`.
unfoldable pub w_source : ℕ → List ℕ
w_source pages = source_text (
    codes ".bss 8192"
    ∷ codes ".word 0"
    ∷ codes "moval *$grown,r12"
    ∷ codes "chmk $17"
    ∷ codes "chmk $2"
    ∷ codes "blbs r1,child"
    ∷ codes "movl $30,r3"
    ∷ codes "round: movl i^$0x400,r4"
    ∷ (codes "movl i^$" ++ decimal pages ++ codes ",r5")
    ∷ codes "change: incl (r4)"
    ∷ codes "addl2 i^$0x400,r4"
    ∷ codes "sobgtr r5,change"
    ∷ codes "sobgtr r3,round"
    ∷ codes "chmk i^$84"
    ∷ codes "moval *$written,r12"
    ∷ codes "chmk $4"
    ∷ codes "moval *$code,r12"
    ∷ codes "chmk $1"
    ∷ codes "child: moval *$run,r12"
    ∷ codes "chmk $59"
    ∷ codes "chmk $1"
    ∷ codes ".space 79"
    ∷ codes "grown: .long 1"
    ∷ (codes ".long " ++ decimal (1024 + 1024 * pages))
    ∷ codes "written: .long 3"
    ∷ codes ".long 1"
    ∷ codes ".long text"
    ∷ codes ".long 2"
    ∷ codes "code: .long 1"
    ∷ codes ".long 0"
    ∷ codes "run: .long 3"
    ∷ codes ".long name"
    ∷ codes ".long 0"
    ∷ codes ".long 0"
    ∷ codes "name: .byte 0x76"
    ∷ codes ".byte 0"
    ∷ codes ".space 14"
    ∷ codes "text: .byte 0x77"
    ∷ codes ".byte 0x0a"
    ∷ [])

-- the same from address 0 on; each line has its address after it, and what it is
unfoldable pub w_bytes : ℕ → List ℕ
w_bytes pages =
    (0x00 ∷ 0x00 ∷ [])  -- 0000 the entry mask
    ++ (0xDE ∷ 0x9F ∷ []) ++ word_bytes 0xA0 ++ (0x5C ∷ [])  -- 0002 moval *$0xa0,r12
    ++ (0xBC ∷ 0x11 ∷ [])  -- 0009 chmk $17, break
    ++ (0xBC ∷ 0x02 ∷ [])  -- 000b chmk $2, fork
    ++ (0xE8 ∷ 0x51 ∷ 0x36 ∷ [])  -- 000d blbs r1,0x46
    ++ (0xD0 ∷ 0x1E ∷ 0x53 ∷ [])  -- 0010 movl $30,r3
    ++ (0xD0 ∷ 0x8F ∷ []) ++ word_bytes 0x400 ++ (0x54 ∷ [])  -- 0013 movl i^$0x400,r4
    ++ (0xD0 ∷ 0x8F ∷ []) ++ word_bytes pages ++ (0x55 ∷ [])  -- 001a movl i^$PAGES,r5
    ++ (0xD6 ∷ 0x64 ∷ [])  -- 0021 incl (r4)
    ++ (0xC0 ∷ 0x8F ∷ []) ++ word_bytes 0x400 ++ (0x54 ∷ [])  -- 0023 addl2 i^$0x400,r4
    ++ (0xF5 ∷ 0x55 ∷ 0xF4 ∷ [])  -- 002a sobgtr r5,0x21
    ++ (0xF5 ∷ 0x53 ∷ 0xE3 ∷ [])  -- 002d sobgtr r3,0x13
    ++ (0xBC ∷ 0x8F ∷ 0x54 ∷ 0x00 ∷ [])  -- 0030 chmk i^$84, wait
    ++ (0xDE ∷ 0x9F ∷ []) ++ word_bytes 0xA8 ++ (0x5C ∷ [])  -- 0034 moval *$0xa8,r12
    ++ (0xBC ∷ 0x04 ∷ [])  -- 003b chmk $4, write
    ++ (0xDE ∷ 0x9F ∷ []) ++ word_bytes 0xB8 ++ (0x5C ∷ [])  -- 003d moval *$0xb8,r12
    ++ (0xBC ∷ 0x01 ∷ [])  -- 0044 chmk $1, exit
    ++ (0xDE ∷ 0x9F ∷ []) ++ word_bytes 0xC0 ++ (0x5C ∷ [])  -- 0046 moval *$0xc0,r12
    ++ (0xBC ∷ 0x3B ∷ [])  -- 004d chmk $59, execve
    ++ (0xBC ∷ 0x01 ∷ [])  -- 004f chmk $1, exit
    ++ replicate 79 0  -- 0051
    ++ word_bytes 1 ++ word_bytes (1024 + 1024 * pages)  -- 00a0 the address behind its pages
    ++ word_bytes 3 ++ word_bytes 1 ++ word_bytes 0xE0 ++ word_bytes 2  -- 00a8 to output 1, from 0xe0 on, 2 bytes
    ++ word_bytes 1 ++ word_bytes 0  -- 00b8 the exit code 0
    ++ word_bytes 3 ++ word_bytes 0xD0 ++ word_bytes 0 ++ word_bytes 0  -- 00c0 the name at 0xd0
    ++ (0x76 ∷ 0x00 ∷ [])  -- 00d0 `v`
    ++ replicate 14 0  -- 00d2
    ++ (0x77 ∷ 0x0A ∷ [])  -- 00e0 `w` and a line feed

-- ---- `v`

-- It goes thirty times round its pages, changing each, and writes.
unfoldable pub v_source : ℕ → List ℕ
v_source pages = source_text (
    (codes ".bss " ++ decimal (1024 * pages))
    ∷ codes ".word 0"
    ∷ codes "movl $30,r3"
    ∷ codes "round: movl i^$0x400,r4"
    ∷ (codes "movl i^$" ++ decimal pages ++ codes ",r5")
    ∷ codes "change: incl (r4)"
    ∷ codes "addl2 i^$0x400,r4"
    ∷ codes "sobgtr r5,change"
    ∷ codes "sobgtr r3,round"
    ∷ codes "moval *$written,r12"
    ∷ codes "chmk $4"
    ∷ codes "moval *$code,r12"
    ∷ codes "chmk $1"
    ∷ codes ".space 116"
    ∷ codes "written: .long 3"
    ∷ codes ".long 1"
    ∷ codes ".long text"
    ∷ codes ".long 2"
    ∷ codes "code: .long 1"
    ∷ codes ".long 0"
    ∷ codes ".space 32"
    ∷ codes "text: .byte 0x76"
    ∷ codes ".byte 0x0a"
    ∷ [])

-- the bytes of `v` from address 0 on; each line has its address after it, and what it is
unfoldable pub v_bytes : ℕ → List ℕ
v_bytes pages =
    (0x00 ∷ 0x00 ∷ [])  -- 0000 the entry mask
    ++ (0xD0 ∷ 0x1E ∷ 0x53 ∷ [])  -- 0002 movl $30,r3
    ++ (0xD0 ∷ 0x8F ∷ []) ++ word_bytes 0x400 ++ (0x54 ∷ [])  -- 0005 movl i^$0x400,r4
    ++ (0xD0 ∷ 0x8F ∷ []) ++ word_bytes pages ++ (0x55 ∷ [])  -- 000c movl i^$PAGES,r5
    ++ (0xD6 ∷ 0x64 ∷ [])  -- 0013 incl (r4)
    ++ (0xC0 ∷ 0x8F ∷ []) ++ word_bytes 0x400 ++ (0x54 ∷ [])  -- 0015 addl2 i^$0x400,r4
    ++ (0xF5 ∷ 0x55 ∷ 0xF4 ∷ [])  -- 001c sobgtr r5,0x13
    ++ (0xF5 ∷ 0x53 ∷ 0xE3 ∷ [])  -- 001f sobgtr r3,0x5
    ++ (0xDE ∷ 0x9F ∷ []) ++ word_bytes 0xA8 ++ (0x5C ∷ [])  -- 0022 moval *$0xa8,r12
    ++ (0xBC ∷ 0x04 ∷ [])  -- 0029 chmk $4, write
    ++ (0xDE ∷ 0x9F ∷ []) ++ word_bytes 0xB8 ++ (0x5C ∷ [])  -- 002b moval *$0xb8,r12
    ++ (0xBC ∷ 0x01 ∷ [])  -- 0032 chmk $1, exit
    ++ replicate 116 0  -- 0034
    ++ word_bytes 3 ++ word_bytes 1 ++ word_bytes 0xE0 ++ word_bytes 2  -- 00a8 to output 1, from 0xe0 on, 2 bytes
    ++ word_bytes 1 ++ word_bytes 0  -- 00b8 the exit code 0
    ++ replicate 32 0  -- 00c0
    ++ (0x76 ∷ 0x0A ∷ [])  -- 00e0 `v` and a line feed
